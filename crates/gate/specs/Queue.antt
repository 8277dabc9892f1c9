-- The queue of background jobs.
use Rattle.std.specs.Prelude.{Bool, true, ◌&&◌, List, [], ◌∷◌, nat_le}
use Rattle.gate.specs.declared.offer.Offer.{Offer}

-- each of them costs from 1 to 1024 ticks
abbrev pub offers_within : List Offer → Bool
offers_within [] = true
offers_within (o ∷ os) = (nat_le 1 o.cost && nat_le o.cost 1024) && offers_within os
