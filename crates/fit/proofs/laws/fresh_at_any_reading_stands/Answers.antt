use Rattle.fit.proofs.FreshSound.{fresh_at_any_reading}
use Rattle.fit.proofs.laws.fresh_at_any_reading_stands.Goals as goal

pub returns : goal.returns
returns c = fresh_at_any_reading
