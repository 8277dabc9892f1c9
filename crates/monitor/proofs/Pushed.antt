-- Events that are pushed one after another.
use Rattle.std.proofs.Common.{◌≡◌, ℕ, ◌+◌, ◌-◌, ◌<◌, max, List, [], ◌∷◌, ◌++◌, length, get_or, drop, replicate, sym, ap, ◌∙◌, append_assoc}
use Rattle.std.proofs.lemmas.List.{at_drop_more, map_push, replicate_more}
use Rattle.arrivals.specs.Runs.{events}
use Rattle.arrivals.specs.declared.counter.Event.{Event}
use Rattle.arrivals.specs.declared.counter.Event.TheVariants.{Arrival, Tick}
use Rattle.arrivals.specs.declared.record.Record.{Record}
use Rattle.monitor.specs.Schedule.{scheduled}

-- one tick more
pub waited_more : (es : List Event) (now later : List Record) (r : Record) (n : ℕ) → r.event ≡ Tick → events now ≡ es ++ replicate n Tick → later ≡ now ++ r ∷ []
    → events later ≡ es ++ replicate (n + 1) Tick
waited_more es now later r n tick inv e =
    ap events e ∙ map_push (λ s. s.event) now r ∙ ap (λ x. events now ++ x ∷ []) tick ∙ ap (λ os. os ++ Tick ∷ []) inv
    ∙ append_assoc es (replicate n Tick) (Tick ∷ []) ∙ ap (λ os. es ++ os) (replicate_more n Tick)

-- ticks up to the next instant and an arrival there
pub arrived_more : (instants : List ℕ) (i clock next d : ℕ) (now waited later : List Record) (r : Record) → i < length instants → r.event ≡ Arrival
    → events now ++ scheduled clock (drop i instants) ≡ scheduled 0 instants → events waited ≡ events now ++ replicate (get_or instants i d - clock) Tick → later ≡ waited ++ r ∷ []
    → next ≡ max clock (get_or instants i d) → events later ++ scheduled next (drop (i + 1) instants) ≡ scheduled 0 instants
arrived_more instants i clock next d now waited later r h arrival inv ticks e latest =
    let t = get_or instants i d in
    let rest = scheduled (max clock t) (drop (i + 1) instants) in
    ap (λ n. events later ++ scheduled n (drop (i + 1) instants)) latest
    ∙ ap (λ os. os ++ rest) (ap events e ∙ map_push (λ s. s.event) waited r ∙ ap (λ x. events waited ++ x ∷ []) arrival)
    ∙ append_assoc (events waited) (Arrival ∷ []) rest
    ∙ ap (λ os. os ++ (Arrival ∷ rest)) ticks
    ∙ append_assoc (events now) (replicate (t - clock) Tick) (Arrival ∷ rest)
    ∙ ap (λ os. events now ++ os) (sym (at_drop_more (scheduled clock) instants i d h))
    ∙ inv
