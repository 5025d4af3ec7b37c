-- Where the test decides, as many bytes are passed as the rest begins with.
use Prim.Native.Nat.{ℕ, ◌+◌, ◌-◌}
use native.Mathlib.Omega.{arith}
use mathlib.Core.Path.{◌≡◌, sym, ◌∙◌, ap}
use mathlib.Core.Bool.{Bool, true, false}
use mathlib.Core.List.{List}
use lib.ListN.{drop, length-drop}
use lib.Seq.{get_or-drop}
use Rattle.std.specs.List.{prefix_len}
use Rattle.std.proofs.lemmas.List.Sums.{prefix_len_is}
use Rattle.layout.specs.Bytes.{byte_at}
use Rattle.octets.specs.Past.{Past}

pub past-run : {fits : ℕ → Bool → Type 0} {bytes : List ℕ} {at stop : ℕ} (test : ℕ → Bool) → ((b : ℕ) (r : Bool) → fits b r → r ≡ test b)
    → Past fits bytes at stop → stop - at ≡ prefix_len test (drop at bytes)
past-run {fits} {bytes} {at} {stop} test tells p =
    let there : at + (stop - at) ≡ stop = omega (arith, p.after) in
    sym (prefix_len_is test (drop at bytes) (stop - at) 0 (omega (arith, p.within, length-drop at bytes))
    (λ k h. ap test (get_or-drop at bytes k 0) ∙ sym (tells (byte_at bytes (at + k)) true (p.passed (at + k) (omega arith) (omega arith))))
    (λ h. ap test (get_or-drop at bytes (stop - at) 0 ∙ ap (byte_at bytes) there)
    ∙ sym (tells (byte_at bytes stop) false (p.stops (omega (arith, h, p.within, length-drop at bytes))))))
