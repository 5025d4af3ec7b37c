-- Records and the output room: it is too short for them, and the answer is 33, or they all fit.
use Prim.Native.Nat.{ℕ, ◌*◌, ◌≤◌, ◌<◌}
use mathlib.Core.Path.{◌≡◌, refl}
use mathlib.Core.Bool.{Bool, true, false, cond}
use mathlib.Core.List.{List}
use lib.Dec.{ltb}
use lib.ListN.{length}
use borrow.Author.Tests.{ltb-true, ltb-false}
use Rattle.sheet.specs.Sheet.{SheetRecord, SheetAnswer, refused_at, records_within}

pub data Within (records : List SheetRecord) (room : ℕ) : SheetAnswer → Type 0 where
  short : room < 3 * length records → Within records room (refused_at 33 0)
  fits : 3 * length records ≤ room → Within records room (record { number = 0; line = 0; records = records })

pub within : (records : List SheetRecord) (room : ℕ) → Within records room (records_within records room)
within records room = by-test (ltb room (3 * length records)) refl
  where
    by-test : (b : Bool) → ltb room (3 * length records) ≡ b
        → Within records room (cond b (refused_at 33 0) (record { number = 0; line = 0; records = records }))
    by-test true e = short (ltb-true room (3 * length records) e)
    by-test false e = fits (ltb-false room (3 * length records) e)
