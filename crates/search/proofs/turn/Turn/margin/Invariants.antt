use Rattle.search.specs.Ahead.{ahead_at}
use Rattle.search.specs.Turn.{own_demand}
use Rattle.search.proofs.Sweeps.{Swept}
use Rattle.search.proofs.turn.Turn.margin.Given as goal

abbrev pub invariant-loop-length : goal.invariant-loop-length
invariant-loop-length l = Swept l.initial.margin (own_demand l.self) (ahead_at l.self.ahead) l.length l.slack l.margin
