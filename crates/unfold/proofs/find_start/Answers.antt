-- The first record from the end that passes, or none where each fails: the run went over all of them.
use Rattle.std.proofs.Common.{rules, ℕ, ◌<◌, ◌≡◌, None, IfSome, false, ◌∙◌}
use Rattle.std.proofs.iter.runs.Sources.{ranges}
use Rattle.unfold.specs.Spine.{IsStart}
use Rattle.unfold.proofs.Starting.{found, down}
use Rattle.unfold.proofs.find_start.Goals.{After-find}
use Rattle.unfold.proofs.find_start.Goals as goal

each-fails : (c : After-find) → c.find.result ≡ None → let a = c.args in (m : ℕ) → m < a.count → IsStart a.chart.now m a.n false
each-fails c e =
    let a = c.args in
    let (u, from, ends) = c.find.ensures.runs in
    let (p, start, same) = c.rev.ensures.runs u u.seen from in
    let (whole, fails) = rw e at ends in
    let failed = fails (search rules) in
    let each : (k : ℕ) → IfSome (p.at k) (λ m. IsStart a.chart.now m a.n false) = λ k. search (rules, failed k, same.0.2 k) in
    down p a.count (λ m. IsStart a.chart.now m a.n false) start (same.1 ∙ whole) each

pub returns : goal.returns
returns c = let a = c.args in found a.chart.now a.count a.n c.find.result (search (rules, ranges)) (each-fails c)
