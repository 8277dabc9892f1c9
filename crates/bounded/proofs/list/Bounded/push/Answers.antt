use Rattle.std.proofs.Common.{arith, rules}
use Rattle.std.proofs.lemmas.List.{take_more_set, length-take-le}
use Rattle.bounded.proofs.list.Bounded.push.Goals as goal

pub returns : goal.returns
returns g c =
    let s = c.args.self.now in
    let n = length-take-le s.len s.slots (omega arith) in
    record {
      answer = search rules;
      after = rw (n, take_more_set s.slots s.len c.args.element (omega arith)) (search rules);
    }
