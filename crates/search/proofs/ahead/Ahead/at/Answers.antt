use Rattle.std.proofs.Common.{◌≡◌, ℕ, ◌*◌, ◌≤◌, map, sum_by, ap, ◌∙◌, arith, mul-le-mul, rules}
use Rattle.std.proofs.iter.runs.Made.{chains}
use Rattle.fit.specs.Fit.{ahead}
use Rattle.lanes.specs.Demand.{load}
use Rattle.lanes.specs.Lane.{lane_of}
use Rattle.search.specs.Ahead.{ahead_at}
use Rattle.search.specs.declared.ahead.Ahead.{Ahead}
use Rattle.search.proofs.Loads.{loads_bound, loads_sum}
use Rattle.search.proofs.ahead.Ahead.at.Goals as goal
use Rattle.search.proofs.ahead.Ahead.at.Goals.{After-sum-work}

-- what the tasks before may ask by a length that is not too long
small : (a : Ahead) (y : ℕ) → y ≤ 1048576 → ahead_at a y ≤ 2199023255552
small a y h = omega (arith, loads_bound y a.before.now, mul-le-mul a.few h, a.few, a.low, mul-le-mul a.light h)

-- what the sum is
asked : (c : After-sum-work) → c.sum-work.result ≡ ahead (map lane_of c.args.self.now.before.now) c.args.length
asked c =
    let sum : c.sum-work.result ≡ sum_by (λ l. load (lane_of l) c.args.length) c.args.self.now.before.now = search (rules, chains) in
    sum ∙ loads_sum c.args.length c.args.self.now.before.now

pub overflow_mul-result : goal.overflow_mul-result
overflow_mul-result c = omega (arith, asked c, small c.args.self.now c.args.length c.requires)

pub overflow_add-result-2 : goal.overflow_add-result-2
overflow_add-result-2 c =
    omega (arith, asked (goal.at.overflow_add-result-2 c).After-sum-work, ap (λ y. c.args.self.now.share * y) c.from.ensures, small c.args.self.now c.args.length c.requires)

pub returns : goal.returns
returns c =
    let self = c.args.self.now in
    let work = asked (goal.at.returns c).After-sum-work in
    let line = ap (λ y. self.share * y) c.from.ensures in
    record { value = omega (arith, work, line); bound = omega (arith, work, line, small self c.args.length c.requires) }
