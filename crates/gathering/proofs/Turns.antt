-- A turn of the loop of `gather` that takes a byte: the loop keeps the parts of the machine apart.
-- Why: what the turn's calls gave are the parts of `applied`, and a byte that means nothing yet changes the reader alone and leaves no work.
use mathlib.Core.Path.{◌≡◌, refl, sym, ap, ap₂, ◌∙◌, subst}
use mathlib.Core.Bool.{Bool, true, false, true≢false, cond}
use mathlib.Core.List.{List}
use Prim.Native.Nat.{ℕ, ◌+◌}
use lib.Dec.{leb}
use borrow.Author.Tests.{eq-eqb, ne_eqb}
use Rattle.reader.specs.declared.Coordinates.{Coordinates}
use Rattle.reader.specs.declared.Numbers.{Numbers}
use Rattle.reader.specs.declared.Reader.{Reader}
use Rattle.reader.specs.declared.Event.{Event}
use Rattle.reader.specs.declared.Event.TheVariants as event
use Rattle.reader.specs.declared.Step.{Step}
use Rattle.reader.specs.Next.{is_nothing}
use Rattle.reader.specs.Step.{step_of, passed_over}
use Rattle.mnemonics.specs.Table.{takes_pairs}
use Rattle.hpgl.specs.declared.Settings.{Settings}
use Rattle.hpgl.specs.declared.Polygon.{Polygon}
use Rattle.hpgl.specs.declared.Core.{Core}
use Rattle.hpgl.specs.declared.Action.{Action}
use Rattle.hpgl.specs.declared.Action.TheVariants.{Keep, Line, Chords, Join, Outline, Rectangle, Answer}
use Rattle.hpgl.specs.declared.Edge.{Edge}
use Rattle.hpgl.specs.declared.Work.{Work}
use Rattle.hpgl.specs.declared.Acted.{Acted}
use Rattle.hpgl.specs.declared.Work.TheVariants.{Nothing}
use Rattle.hpgl.specs.declared.State.{State}
use Rattle.hpgl.proofs.Cases.{never}
use Rattle.hpgl.specs.Numbers.{too_far, polygon_full, polygon_bytes}
use Rattle.hpgl.specs.Place.{location, in_range}
use Rattle.hpgl.specs.Rules.{done, refuse, letters, move_to, point_cost, store_point, aimed, go_to, pair_rule, noting, noted, end_rule, act_on}
use Rattle.hpgl.specs.Replies.{remembering, remembered}
use Rattle.hpgl.specs.Machine.{occupied, stored, queued, reader_after, applied, acted, take_state, take_number}
use Rattle.hpgl.specs.Valid.{Valid}
use Rattle.hpgl.proofs.ValidKept.{valid-take}
use Rattle.rulekit.specs.declared.hand.Hand.{Hand}
use Rattle.hpgl.proofs.Ends.{pairs_end}
use Rattle.rulekit.specs.Hand.{carriage_of, core_of, name_number, name-parts}
use Rattle.gathering.specs.Gather.{whole, heavy_of}

-- what waits after an action, from the edges es, of which the polygon had k, to the core d
abbrev pub leaves : List Edge → ℕ → Core → Action → Work
leaves es k d a = queued d.settings.turn (stored es k a) d.carriage.polygon.edges a

-- what the calls of one turn gave: the step of the reader, what the core did, and the parts of the next machine
pub record Turn (m : State) (b : ℕ) (q : Step) (t : Acted) (next : State) : Type 0 where
  pub step : q ≡ step_of m.reader b
  pub act : t ≡ act_on m.core q.event
  pub reader : next.reader ≡ reader_after q.reader t.number
  pub core : next.core ≡ noting t.number t.core
  pub edges : next.store.edges ≡ stored m.store.edges m.core.carriage.polygon.edges t.action
  pub work : next.work ≡ leaves m.store.edges m.core.carriage.polygon.edges t.core t.action

-- the reader goes on, or passes over the rest
pub reader-on : (r : Reader) {n : ℕ} → n ≡ 0 → r ≡ reader_after r n
unfolding reader_after
reader-on r e = rw (eq-eqb _ 0 e) refl

pub reader-off : (r : Reader) {n : ℕ} → (n ≡ 0 → ⊥) → passed_over r ≡ reader_after r n
unfolding reader_after
reader-off r f = rw (ne_eqb _ 0 f) refl

pub nothing_is : (e : Event) → is_nothing e ≡ true → e ≡ event.Nothing
unfolding is_nothing
nothing_is event.Nothing h = refl
nothing_is (event.Named op) h = absurd (true≢false (sym h))
nothing_is (event.Pair n) h = absurd (true≢false (sym h))
nothing_is (event.Ended op n) h = absurd (true≢false (sym h))
nothing_is (event.Refused k) h = absurd (true≢false (sym h))

-- a byte that means nothing yet
pub quiet-turn : (m : State) (b : ℕ) → let q = step_of m.reader b in
    is_nothing q.event ≡ true → Turn m b q (done m.core Keep) (whole q.reader m.core m.store Nothing)
unfolding act_on done noting remembering remembered reader_after stored queued
quiet-turn m b h = record {
  step = refl;
  act = rw (nothing_is (step_of m.reader b).event h) refl;
  reader = refl;
  core = refl;
  edges = refl;
  work = refl;
}

module _ (m next : State) (b : ℕ) (q : Step) (t : Acted) (turn : Turn m b q t next) (free : occupied m.work ≡ false) where
  acted-is : noted t ≡ acted m b
  unfolding acted
  acted-is = ap noted (turn.act ∙ ap (λ (x : Step). act_on m.core x.event) turn.step)

  pub turn-number : take_number m b ≡ t.number
  unfolding take_number noted
  turn-number = rw free (ap (λ (x : Acted). x.number) (sym acted-is))

  pub turn-taken : take_state m b ≡ next
  unfolding take_state applied noted noting
  turn-taken =
      let parts : next ≡ applied m q.reader (noted t) = λ i. record { reader = turn.reader i; core = turn.core i; store = record { edges = turn.edges i }; work = turn.work i } in
      rw free (sym (parts ∙ ap₂ (λ (x : Step) (y : Acted). applied m x.reader y) turn.step acted-is))

  pub turn-valid : Valid m → Valid next
  turn-valid v = subst Valid turn-taken (valid-take b v)

-- ---- what an event does to the parts of a core

abbrev pub acting : Settings → Hand → Polygon → Action → ℕ → Acted
acting s h g a n = record { core = core_of s h g; action = a; number = n }

module _ (s : Settings) (h : Hand) (g : Polygon) where
  pub none-acts : acting s h g Keep 0 ≡ act_on (core_of s h g) event.Nothing
  unfolding act_on done
  none-acts = refl

  pub refused-acts : (k : ℕ) → acting s h g Keep k ≡ act_on (core_of s h g) (event.Refused k)
  unfolding act_on refuse
  refused-acts k = refl

  pub ended-acts : (op : ℕ) (n : Numbers) → takes_pairs op ≡ true → acting s h g Keep 0 ≡ act_on (core_of s h g) (event.Ended op n)
  unfolding act_on done
  ended-acts op n l = sym (pairs_end (core_of s h g) op n l)

  pub settled-acts : {c : Core} {t : Acted} (op : ℕ) (n : Numbers) → c ≡ core_of s h g → t ≡ end_rule c op n → t ≡ act_on (core_of s h g) (event.Ended op n)
  unfolding act_on
  settled-acts op n e d = d ∙ ap (λ (c : Core). end_rule c op n) e

  pub pair-acts : {t : Acted} (n : Coordinates) → t ≡ pair_rule (core_of s h g) n → t ≡ act_on (core_of s h g) (event.Pair n)
  unfolding act_on
  pair-acts n e = e

  module _ (op : ℕ) {k : ℕ} (number : k ≡ name_number g.mode op) where
    pub named-acts : (to : Hand) → k ≡ 0 → carriage_of to g ≡ letters (carriage_of h g) op → acting s to g Keep 0 ≡ act_on (core_of s h g) (event.Named op)
    unfolding act_on done
    named-acts to z e =
        (λ i. record { core = record { settings = s; carriage = e i }; action = Keep; number = 0 })
        ∙ sym (name-parts s h g op ∙ rw (eq-eqb (name_number g.mode op) 0 (sym number ∙ z)) refl)

    pub unknown-acts : (k ≡ 0 → ⊥) → acting s h g Keep k ≡ act_on (core_of s h g) (event.Named op)
    unfolding act_on refuse
    unknown-acts f =
        ap (λ (n : ℕ). acting s h g Keep n) number
        ∙ sym (name-parts s h g op ∙ rw (ne_eqb (name_number g.mode op) 0 (λ e. f (number ∙ e))) refl)

-- a pair that is refused changes nothing
pub pair-refused : (c : Core) (n : Coordinates) → ((pair_rule c n).number ≡ 0 → ⊥) → pair_rule c n ≡ refuse c (pair_rule c n).number
unfolding pair_rule go_to store_point move_to done refuse
pair-refused c n f = go (in_range (location c.settings (aimed c n))) c.carriage.polygon.mode (leb (c.carriage.polygon.bytes + point_cost c.carriage.pen) polygon_bytes) _ _ _ _ f
  where
    go : (near mode fits : Bool) (i j : Core) (x y : Action) →
        let t = cond near (cond mode (cond fits (done i x) (refuse c polygon_full)) (done j y)) (refuse c too_far) in
        (t.number ≡ 0 → ⊥) → t ≡ refuse c t.number
    go true true true i j x y f = absurd (f refl)
    go true true false i j x y f = refl
    go true false fits i j x y f = absurd (f refl)
    go false mode fits i j x y f = refl

-- ---- an action that leaves the store

abbrev pub Unjoined : Action → Type 0
Unjoined a = (e : Edge) → a ≡ Join e → ⊥

pub unstored : (es : List Edge) (k : ℕ) (a : Action) → heavy_of a ≡ false → Unjoined a → es ≡ stored es k a
unfolding stored heavy_of
unstored es k Keep h j = refl
unstored es k (Line a b) h j = refl
unstored es k (Chords o) h j = refl
unstored es k (Join e) h j = absurd (j e refl)
unstored es k Outline h j = refl
unstored es k (Rectangle p q b) h j = never h refl
unstored es k (Answer r) h j = refl
