use Rattle.arrivals.specs.Monitor.{fresh, monitor_of}
use Rattle.tasks.specs.Task.{task_of}
use Rattle.arrivals.proofs.Recorded.{Answered}
use Rattle.arrivals.proofs.observing.observe.Given as goal

abbrev pub invariant-loop-record : goal.invariant-loop-record
invariant-loop-record l = Answered (fresh (task_of l.task)) l.initial.records l.records l.record-index (monitor_of l.monitor)
