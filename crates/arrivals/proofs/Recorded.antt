-- A loop that answers one record after another.
use Rattle.std.proofs.Common.{◌≡◌, ℕ, suc, ◌+◌, ◌<◌, ◌≤◌, List, [], ◌∷◌, ◌++◌, map, length, get_or, take, drop, set, Some, None, Option, Result, sym, refl, ap, ◌∙◌, append_assoc, arith, length-append}
use Rattle.std.proofs.lemmas.List.{append-nil, at_drop_all, drop-drop, drop_more, drop-set-lt, take_all, take_more_set}
use Rattle.tasks.specs.Reply.{reply}
use Rattle.arrivals.specs.Monitor.{MonitorModel, after, monitor_refusal}
use Rattle.arrivals.specs.Runs.{RecordModel, after_all, answer_of, events, heard, history, observation, observations, record_of, told}
use Rattle.arrivals.specs.declared.counter.Event.{Event}
use Rattle.arrivals.specs.declared.record.Record.{Record}
use Rattle.arrivals.specs.declared.refusal.MonitorRefusal.{MonitorRefusal}

pub history_append : (xs ys : List Record) → history (xs ++ ys) ≡ history xs ++ history ys
history_append [] ys = refl
history_append (x ∷ xs) ys = ap (λ os. heard x.event x.answer ++ os) (history_append xs ys) ∙ sym (append_assoc (heard x.event x.answer) (history xs) (history ys))

-- The loop is at the place i of the records, which were `old` when it began; `now` is what they hold, and m is the monitor.
-- What was answered, followed by what is to be answered, is what the fresh monitor answers; and so with the monitor that is left.
pub record Answered (start : MonitorModel) (old now : List Record) (i : ℕ) (m : MonitorModel) : Type 0 where
  pub answers : history (take i now) ++ observations m (events (drop i old)) ≡ observations start (events old)
  pub left : after_all m (events (drop i old)) ≡ after_all start (events old)
  pub rest : drop i now ≡ drop i old

pub answered_none : (start : MonitorModel) (old : List Record) → Answered start old old 0 start
answered_none start old = record { answers = refl; left = refl; rest = refl }

pub answered_more : (start m m' : MonitorModel) (old now : List Record) (i : ℕ) (r d : Record) → i < length now → r.event ≡ (get_or now i d).event
    → heard r.event r.answer ≡ observation (get_or now i d).event m ∷ [] → m' ≡ after (get_or now i d).event m → Answered start old now i m
    → Answered start old (set now i r) (i + 1) m'
answered_more start m m' old now i r d h same said then inv =
    let e = (get_or now i d).event in
    let before = history (take i now) in
    let later : drop (i + 1) now ≡ drop (i + 1) old = sym (drop-drop 1 i now) ∙ ap (drop 1) inv.rest ∙ drop-drop 1 i old in
    let es = events (drop (i + 1) old) in
    let here : events (drop i old) ≡ e ∷ es = ap events (sym inv.rest ∙ drop_more now i d h) ∙ ap (λ rs. e ∷ events rs) later in
    record {
      answers =
          ap (λ rs. history rs ++ observations m' es) (take_more_set now i r h)
          ∙ ap (λ os. os ++ observations m' es) (history_append (take i now) (r ∷ []) ∙ ap (λ os. before ++ (os ++ [])) said)
          ∙ append_assoc before (observation e m ∷ []) (observations m' es)
          ∙ ap (λ n. before ++ (observation e m ∷ observations n es)) then
          ∙ sym (ap (λ ds. before ++ observations m ds) here)
          ∙ inv.answers;
      left = ap (λ n. after_all n es) then ∙ sym (ap (after_all m) here) ∙ inv.left;
      rest = drop-set-lt (i + 1) now i r (omega arith) ∙ later;
    }

pub answered_all : (start m : MonitorModel) (old now : List Record) (i : ℕ) → length now ≤ i → length now ≡ length old → Answered start old now i m
    → (history now ≡ observations start (events old)) × (m ≡ after_all start (events old))
answered_all start m old now i h n inv =
    let done : events (drop i old) ≡ [] = at_drop_all events old i (omega arith) in (
      sym (append-nil (history now)) ∙ ap (λ rs. history rs ++ []) (sym (take_all i now h)) ∙ sym (ap (λ es. history (take i now) ++ observations m es) done) ∙ inv.answers,
      sym (ap (after_all m) done) ∙ inv.left,
    )

-- as many observations as records: every record has its answer
at_most : (e : Event) (a : Option (Result ℕ MonitorRefusal)) → length (heard e a) ≤ 1
at_most e None = omega arith
at_most e (Some r) = omega arith

length_history : (rs : List Record) → length (history rs) ≤ length rs
length_history [] = omega arith
length_history (r ∷ rs) = omega (arith, length-append (heard r.event r.answer) (history rs), at_most r.event r.answer, length_history rs)

all_told : (e : Event) (a : Option (Result ℕ MonitorRefusal)) (rs : List Record) → length (heard e a ++ history rs) ≡ suc (length rs) → (map record_of rs ≡ map told (history rs))
    → ◌≡◌ {A = List RecordModel} (record { event = e; answer = answer_of a } ∷ map record_of rs) (map told (heard e a ++ history rs))
all_told e None rs n h = absurd (omega (arith, length_history rs))
all_told e (Some r) rs n h = ap (λ ts. told (record { event = e; answer = reply (λ k. k) monitor_refusal r }) ∷ ts) h

pub records_told : (rs : List Record) → length (history rs) ≡ length rs → map record_of rs ≡ map told (history rs)
records_told [] n = refl
records_told (r ∷ rs) n =
    let l = length-append (heard r.event r.answer) (history rs) in
    all_told r.event r.answer rs n (records_told rs (omega (arith, l, n, at_most r.event r.answer, length_history rs)))

pub length_observations : (m : MonitorModel) (es : List Event) → length (observations m es) ≡ length es
length_observations m [] = refl
length_observations m (e ∷ es) = ap suc (length_observations (after e m) es)
