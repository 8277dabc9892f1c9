use Rattle.std.proofs.Common.{◌≡◌, ◌-◌, ◌*◌, ◌/◌, max, sym, mul-le-mul_right, arith, rules}
use Rattle.std.proofs.lemmas.Bool.{leb-true}
use Rattle.search.specs.Ahead.{ahead_at}
use Rattle.search.proofs.Sweeps.{swept_all, swept_idle, swept_weighed}
use Rattle.search.proofs.turn.Turn.margin.Goals as goal
use Rattle.search.proofs.turn.Turn.margin.Goals.{then-demand-gt0, else-demand-gt0, then-margin-eq0-via-then-margin-eq0, then-margin-eq0-via-else-margin-eq0+then-suffices}

pub loop-length-preserved : goal.loop-length-preserved
loop-length-preserved c =
    let slack = c.max-slack.result in
    let margin = c.if-demand-gt0.margin in
    let grown : slack ≡ max c.loop-length.slack ((1024 * c.loop-length.length - ahead_at c.args.self.now.ahead c.loop-length.length) / 1024) = search rules in
    let asked = c.demand-demand.ensures.value in
    elim c.if-demand-gt0.branch [
      | then-demand-gt0 w ↦
          swept_weighed c.loop-length.invariant slack margin grown (omega (arith, asked, w.if-demand-gt0.true))
          (omega (arith, asked, w.margin-is, w.min-margin.ensures, w.saturating_sub.ensures))
      | else-demand-gt0 w ↦ swept_idle c.loop-length.invariant slack margin grown (omega (arith, asked, w.if-demand-gt0.false)) w.margin-is
    ]

pub returns-after-loop-length-clause-passes : goal.returns-after-loop-length-clause-passes
returns-after-loop-length-clause-passes c =
    swept_all c.args.self.now c.loop-length.invariant
    (λ some. omega (arith, c.horizon-length-end.ensures.far, mul-le-mul_right (1024 - c.args.self.now.front.shares) c.loop-length-test.false, c.loop-length.invariant.top))

pub returns-then-margin-eq0-clause-passes : goal.returns-then-margin-eq0-clause-passes
returns-then-margin-eq0-clause-passes c =
    elim c.then-margin-eq0.branch [
      | then-margin-eq0-via-then-margin-eq0 w ↦
          swept_all c.args.self.now c.loop-length.invariant (λ some. absurd (omega (arith, w.if-margin-eq0.true)))
      | then-margin-eq0-via-else-margin-eq0+then-suffices w ↦
          swept_all c.args.self.now c.loop-length.invariant (λ some. leb-true _ _ (sym w.if-suffices.ensures))
    ]
