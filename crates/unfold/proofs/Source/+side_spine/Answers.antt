-- What is left of a record is shorter than it, so each call's measure falls. The laws of Joining.antt answer each call, for the side as
-- for the spine.
use Rattle.std.proofs.Common.{ℕ, ◌<◌, ◌≡◌, arith}
use Rattle.unfold.proofs.Joining.{as-side, word-joined, side-before, spine-after, first-joined, spine-before, side_after, last-joined}
use Rattle.unfold.proofs.Source.+side_spine.Goals as goal

falls : {t m n : ℕ} {A : Type 0} → m ≡ t → (n < m) × A → (n < t) × A
falls same (shorter, asks) = (omega arith, asks)

-- A side.
pub side-side-after-requires : goal.side-side-after-requires
side-side-after-requires t c = falls c.decreases (side-before c.requires c.in-SideFirst.ensures)

pub side-spine-requires : goal.side-spine-requires
side-spine-requires t c =
    let first = c.side-after.ensures in
    falls c.decreases (spine-after c.requires c.in-SideFirst.ensures first.unfolds first.stays)

pub side-spine-after-requires : goal.side-spine-after-requires
side-spine-after-requires t c = falls c.decreases (spine-before c.requires c.in-SideLast.ensures)

pub side-side-requires : goal.side-side-requires
side-side-requires t c =
    let first = c.spine-after.ensures in
    falls c.decreases (side_after c.requires c.in-SideLast.ensures first.unfolds_spine first.stays)

pub side-returns-in-Nothing : goal.side-returns-in-Nothing
side-returns-in-Nothing t c =
    let (plans, stays) = as-side c.requires (word-joined c.in-Nothing.ensures) in
    record { unfolds = plans; stays = stays }

pub side-returns-in-SideFirst : goal.side-returns-in-SideFirst
side-returns-in-SideFirst t c =
    let first = c.side-after.ensures in
    let then = c.spine.ensures in
    let (plans, stays) = as-side c.requires (first-joined c.requires c.in-SideFirst.ensures first.unfolds first.stays
    then.unfolds_spine then.stays) in
    record { unfolds = plans; stays = stays }

pub side-returns-in-SideLast : goal.side-returns-in-SideLast
side-returns-in-SideLast t c =
    let first = c.spine-after.ensures in
    let then = c.side.ensures in
    let (plans, stays) = as-side c.requires (last-joined c.requires c.in-SideLast.ensures first.unfolds_spine first.stays
    then.unfolds then.stays) in
    record { unfolds = plans; stays = stays }

-- A spine.
pub spine-side-then-requires : goal.spine-side-then-requires
spine-side-then-requires t c = falls c.decreases (side-before c.requires c.in-SideFirst.ensures)

pub spine-spine-requires : goal.spine-spine-requires
spine-spine-requires t c =
    let first = c.side-then.ensures in
    falls c.decreases (spine-after c.requires c.in-SideFirst.ensures first.unfolds first.stays)

pub spine-spine-then-requires : goal.spine-spine-then-requires
spine-spine-then-requires t c = falls c.decreases (spine-before c.requires c.in-SideLast.ensures)

pub spine-side-requires : goal.spine-side-requires
spine-side-requires t c =
    let first = c.spine-then.ensures in
    falls c.decreases (side_after c.requires c.in-SideLast.ensures first.unfolds_spine first.stays)

pub spine-returns-in-Nothing : goal.spine-returns-in-Nothing
spine-returns-in-Nothing t c =
    let (plans, stays) = word-joined c.in-Nothing.ensures in
    record { unfolds_spine = plans; stays = stays }

pub spine-returns-in-SideFirst : goal.spine-returns-in-SideFirst
spine-returns-in-SideFirst t c =
    let first = c.side-then.ensures in
    let then = c.spine.ensures in
    let (plans, stays) = first-joined c.requires c.in-SideFirst.ensures first.unfolds first.stays then.unfolds_spine then.stays in
    record { unfolds_spine = plans; stays = stays }

pub spine-returns-in-SideLast : goal.spine-returns-in-SideLast
spine-returns-in-SideLast t c =
    let first = c.spine-then.ensures in
    let then = c.side.ensures in
    let (plans, stays) = last-joined c.requires c.in-SideLast.ensures first.unfolds_spine first.stays then.unfolds then.stays in
    record { unfolds_spine = plans; stays = stays }
