-- What condition 3 does not see, since machine and model share the rules: what a refusal leaves, which numbers there are, what changes settings, and that a label's
-- text changes nothing. By cases over the rules, one lemma each; every leaf either carries out, or refuses with the core as it was.
use Rattle.std.specs.Prelude.{◌≡◌, ◌⊎◌, Bool, true, false, cond, ◌&&◌, ℕ, zero, suc, ◌+◌, ◌≤◌, T, leb, ltb, eqb, ℤ}
use Rattle.std.proofs.Math.Path.{refl, ap}
use Rattle.std.proofs.Common.{sym, ◌∙◌, arith, ne_eqb, leb→le}
use Rattle.std.proofs.Math.Logic.{inl, inr}
use Rattle.std.proofs.Math.Bool.{not}
use Rattle.std.proofs.Math.IntN.{pos}
use Rattle.exact.specs.Whole.{◌≡?◌, ◌≤?◌, ≡?-true}
use Rattle.clip.specs.declared.Point.{Point}
use Rattle.reader.specs.declared.Coordinates.{Coordinates}
use Rattle.reader.specs.declared.Numbers.{Numbers}
use Rattle.reader.specs.declared.Event.{Event}
use Rattle.reader.specs.declared.Event.TheVariants.{Nothing, Named, Pair, Ended, Refused}
use Rattle.reader.specs.declared.Mode.TheVariants.{Idle, Label}
use Rattle.reader.specs.declared.Reader.{Reader}
use Rattle.reader.specs.declared.Step.{Step}
use Rattle.mnemonics.specs.Table.{IN, DF, EP, IP, SC, IW, RO, SP, PM, CI, EA, ER, AA, AR, cell_of, known_in_polygon, changes_settings}
use Rattle.reader.specs.Sizes.{is_cause, Caused}
use Rattle.reader.specs.CauseLaws.{step-caused}
use Rattle.reader.specs.Reader.{go_on_of, quiet_of, label_end}
use Rattle.reader.specs.Step.{label_of, by_mode, step_of}
use Rattle.turns.specs.Turn.{turn_count, find_turn}
use Rattle.plane.specs.Bounds.{most_angle}
use Rattle.hpgl.proofs.Cases.{pick}
use Rattle.hpgl.specs.declared.Position.{Position}
use Rattle.hpgl.specs.declared.Core.{Core}
use Rattle.hpgl.specs.declared.Action.{Action}
use Rattle.hpgl.specs.declared.Action.TheVariants.{Keep}
use Rattle.hpgl.specs.declared.Acted.{Acted}
use Rattle.hpgl.specs.declared.Work.TheVariants as work
use Rattle.hpgl.specs.declared.State.{State}
use Rattle.hpgl.specs.Numbers.{unknown, out_of_range, too_far, polygon_full, busy, polygon_bytes, mode_bytes, point_bytes, most_pen, least_angle}
use Rattle.hpgl.specs.Place.{rounded, location, in_range, absolute_position, relative_position}
use Rattle.hpgl.proofs.Ends as ends
use Rattle.hpgl.proofs.Ends.{Works, by_end}
use Rattle.hpgl.proofs.ArcCases.{by-arc}
use Rattle.hpgl.specs.Change.{with_work}
use Rattle.hpgl.specs.Rules.{done, refuse, name_rule, in_rule, df_rule, good_corners, set_corners, ip_rule, sc_rule, set_turn, turn_to, ro_rule, set_window, iw_rule, set_pen, sp_rule, move_to, point_cost, store_point, aimed, go_to, pair_rule, pm0, closes, ended, pm1_in, pm1, leave, pm2_in, pm2, pm_rule, ep_rule, rectangle_to, first_two, ea_rule, er_rule, circle_fits, circle_with, chord_angle, ci_rule, follow, arc_about, aa_rule, ar_rule, oa_rule, op_rule, ow_rule, oh_rule, oe_rule, noting, noted, end_rule, act_on}
use Rattle.hpgl.specs.Replies.{remembered, remembering}
use Rattle.hpgl.specs.Machine.{waiting, replied, replying, occupied, stored, queued, reader_after, applied, acted, take_state, take_number}

-- ---- what is claimed of an event

-- the numbers of "Causes and numbers" that a take may return beside 20, and the reader's own
pub data Cause (e : Event) : ℕ → Type 0 where
  none : Cause e 0
  not_known : Cause e unknown
  range : Cause e out_of_range
  far : Cause e too_far
  full : Cause e polygon_full
  of_reader : {n : ℕ} → e ≡ Refused n → Cause e n

-- "PM2 still ends, open"
pub record LeftOpen (c : Core) (e : Event) (t : Acted) : Type 0 where
  pub numbers : Numbers
  pub event : e ≡ Ended PM numbers
  pub two : rounded numbers.first ≡ pos 2
  pub number : t.number ≡ polygon_full
  pub core : t.core ≡ leave c 0 0

-- IN, DF, IP, SC, RO or IW, carried out
pub record Sets (e : Event) (t : Acted) : Type 0 where
  pub op : ℕ
  pub numbers : Numbers
  pub event : e ≡ Ended op numbers
  pub changes : changes_settings op ≡ true
  pub number : t.number ≡ 0

pub record Pinned (c : Core) (e : Event) (t : Acted) : Type 0 where
  pub cause : Cause e t.number
  -- "left: settings, position, polygon .. same, but PM2 still ends, open"; and nothing is stored or queued
  pub refused : (t.number ≡ 0 → ⊥) → (t.action ≡ Keep) × ((t.core ≡ c) ⊎ LeftOpen c e t)
  -- what does not set settings leaves them
  pub settings : (t.core.settings ≡ c.settings) ⊎ Sets e t

-- ---- the rules

module _ (c : Core) (e : Event) where
  when : (t : Bool) {x y : Acted} → (t ≡ true → Pinned c e x) → Pinned c e y → Pinned c e (cond t x y)
  when true h k = h refl
  when false h k = k

  refuses : {n : ℕ} → Cause e n → Pinned c e (refuse c n)
  unfolding refuse
  refuses h = record { cause = h; refused = λ z. (refl, inl refl); settings = inl refl }

  carries : (d : Core) (a : Action) → d.settings ≡ c.settings → Pinned c e (done d a)
  unfolding done
  carries d a s = record { cause = none; refused = λ z. absurd (z refl); settings = inl s }

  pin-name : (op : ℕ) → Pinned c e (name_rule c op)
  unfolding name_rule
  pin-name op = pick (Pinned c e) (c.carriage.polygon.mode && not (known_in_polygon op)) (refuses not_known) (carries _ Keep refl)

  pin-store : (p : Position) → Pinned c e (store_point c p)
  unfolding store_point
  pin-store p = pick (Pinned c e) (leb (c.carriage.polygon.bytes + point_cost c.carriage.pen) polygon_bytes) (carries _ _ refl) (refuses full)

  pin-move : (p : Position) → Pinned c e (move_to c p)
  unfolding move_to
  pin-move p = carries _ _ refl

  pin-pair : (n : Coordinates) → Pinned c e (pair_rule c n)
  unfolding pair_rule go_to
  pin-pair n =
      pick (Pinned c e) (in_range (location c.settings (aimed c n)))
      (pick (Pinned c e) c.carriage.polygon.mode (pin-store (aimed c n)) (pin-move (aimed c n))) (refuses far)

  module _ (op : ℕ) (n : Numbers) (is : e ≡ Ended op n) where
    sets : (d : Core) → changes_settings op ≡ true → Pinned c e (done d Keep)
    unfolding done
    sets d h = record {
      cause = none;
      refused = λ z. absurd (z refl);
      settings = inr (record { op = op; numbers = n; event = is; changes = h; number = refl });
    }

    pin-in : changes_settings op ≡ true → Pinned c e (in_rule c)
    unfolding in_rule
    pin-in h = sets _ h

    pin-df : changes_settings op ≡ true → Pinned c e (df_rule c)
    unfolding df_rule
    pin-df h = sets _ h

    pin-corners : (p q : Point) → changes_settings op ≡ true → Pinned c e (set_corners c p q)
    unfolding set_corners
    pin-corners p q h = pick (Pinned c e) (good_corners p q) (sets _ h) (refuses range)

    pin-ip : changes_settings op ≡ true → Pinned c e (ip_rule c n)
    unfolding ip_rule
    pin-ip h = pick (Pinned c e) (eqb n.count 0) (pin-corners _ _ h) (pick (Pinned c e) (eqb n.count 2) (pin-corners _ _ h) (pin-corners _ _ h))

    pin-sc : changes_settings op ≡ true → Pinned c e (sc_rule c n)
    unfolding sc_rule
    pin-sc h = pick (Pinned c e) (eqb n.count 0) (sets _ h) (pick (Pinned c e) (n.first ≡? n.second) (refuses range) (pick (Pinned c e) (n.third ≡? n.fourth) (refuses range) (sets _ h)))

    pin-turn : (z : ℤ) → changes_settings op ≡ true → Pinned c e (turn_to c z)
    unfolding turn_to set_turn
    pin-turn z h = pick (Pinned c e) (ltb (find_turn z) turn_count) (sets _ h) (refuses range)

    pin-ro : changes_settings op ≡ true → Pinned c e (ro_rule c n)
    unfolding ro_rule
    pin-ro h = pick (Pinned c e) (eqb n.count 0) (pin-turn _ h) (pin-turn _ h)

    pin-iw : changes_settings op ≡ true → Pinned c e (iw_rule c n)
    unfolding iw_rule set_window
    pin-iw h =
        let p : Point = location c.settings (absolute_position c.settings (record { x = n.first; y = n.second })) in
        let q : Point = location c.settings (absolute_position c.settings (record { x = n.third; y = n.fourth })) in
        pick (Pinned c e) (eqb n.count 0) (sets _ h) (pick (Pinned c e) (in_range p && in_range q) (sets _ h) (refuses range))

    pin-sp : Pinned c e (sp_rule c n)
    unfolding sp_rule set_pen
    pin-sp =
        pick (Pinned c e) (eqb n.count 0) (carries _ Keep refl)
        (pick (Pinned c e) ((pos 0 ≤? rounded n.first) && (rounded n.first ≤? pos most_pen)) (carries _ Keep refl) (refuses range))

    pin-pm0 : Pinned c e (pm0 c)
    unfolding pm0
    pin-pm0 = pick (Pinned c e) c.carriage.polygon.mode (refuses range) (carries _ Keep refl)

    pin-pm1 : Pinned c e (pm1 c)
    unfolding pm1 pm1_in ended
    pin-pm1 =
        pick (Pinned c e) c.carriage.polygon.mode
        (pick (Pinned c e) (closes c) (pick (Pinned c e) (leb (c.carriage.polygon.bytes + (mode_bytes + point_bytes)) polygon_bytes) (carries _ _ refl) (refuses full))
        (pick (Pinned c e) (leb (c.carriage.polygon.bytes + mode_bytes) polygon_bytes) (carries _ Keep refl) (refuses full)))
        (refuses range)

    -- the one refusal that does not leave the core
    pin-open : op ≡ PM → rounded n.first ≡ pos 2 → Pinned c e (refuse (leave c 0 0) polygon_full)
    unfolding refuse leave
    pin-open q two = record {
      cause = full;
      refused = λ z. (refl, inr (record { numbers = n; event = is ∙ ap (λ (o : ℕ). Ended o n) q; two = two; number = refl; core = refl }));
      settings = inl refl;
    }

    pin-pm2 : op ≡ PM → rounded n.first ≡ pos 2 → Pinned c e (pm2 c)
    unfolding pm2 pm2_in leave
    pin-pm2 q two =
        pick (Pinned c e) c.carriage.polygon.mode
        (pick (Pinned c e) (closes c) (pick (Pinned c e) (leb (c.carriage.polygon.bytes + point_bytes) polygon_bytes) (carries _ _ refl) (pin-open q two)) (carries _ Keep refl))
        (refuses range)

    pin-pm : op ≡ PM → Pinned c e (pm_rule c n)
    unfolding pm_rule
    pin-pm q =
        pick (Pinned c e) (eqb n.count 0) pin-pm0
        (pick (Pinned c e) (rounded n.first ≡? pos 0) pin-pm0
        (pick (Pinned c e) (rounded n.first ≡? pos 1) pin-pm1
        (when (rounded n.first ≡? pos 2) (λ h. pin-pm2 q (≡?-true (rounded n.first) (pos 2) h)) (refuses range))))

    pin-ep : Pinned c e (ep_rule c)
    unfolding ep_rule
    pin-ep = carries c _ refl

    pin-rectangle : (p : Position) → Pinned c e (rectangle_to c p)
    unfolding rectangle_to
    pin-rectangle p = pick (Pinned c e) (in_range (location c.settings p)) (carries _ _ refl) (refuses far)

    pin-ci : Pinned c e (ci_rule c n)
    unfolding ci_rule circle_with
    pin-ci =
        pick (Pinned c e) ((pos least_angle ≤? chord_angle n) && (chord_angle n ≤? pos most_angle)) (pick (Pinned c e) (circle_fits c n.first) (carries c _ refl) (refuses far)) (refuses range)

    pin-arc : (q : Position) → Pinned c e (arc_about c q n)
    unfolding follow
    pin-arc q = by-arc c q n (Pinned c e) (λ p. carries _ _ refl) (refuses far) (refuses range)

  pin-each : (n : Numbers) {op : ℕ} → Works op → e ≡ Ended op n → Pinned c e (end_rule c op n)
  unfolding end_rule changes_settings cell_of ep_rule ea_rule er_rule aa_rule ar_rule oa_rule op_rule ow_rule oh_rule oe_rule
  pin-each n ends.IN is = pin-in IN n is refl
  pin-each n ends.DF is = pin-df DF n is refl
  pin-each n ends.EP is = pin-ep EP n is
  pin-each n ends.IP is = pin-ip IP n is refl
  pin-each n ends.SC is = pin-sc SC n is refl
  pin-each n ends.IW is = pin-iw IW n is refl
  pin-each n ends.RO is = pin-ro RO n is refl
  pin-each n ends.SP is = pin-sp SP n is
  pin-each n ends.PM is = pin-pm PM n is refl
  pin-each n ends.CI is = pin-ci CI n is
  pin-each n ends.EA is = pin-rectangle EA n is (absolute_position c.settings (first_two n))
  pin-each n ends.ER is = pin-rectangle ER n is (relative_position c.carriage.position (first_two n))
  pin-each n ends.AA is = pin-arc AA n is (absolute_position c.settings (first_two n))
  pin-each n ends.AR is = pin-arc AR n is (relative_position c.carriage.position (first_two n))
  pin-each n ends.OA is = carries _ _ refl
  pin-each n ends.OP is = carries _ _ refl
  pin-each n ends.OW is = carries _ _ refl
  pin-each n ends.OH is = carries _ _ refl
  pin-each n ends.OE is = carries _ _ refl

  pin-end : (op : ℕ) (n : Numbers) → e ≡ Ended op n → Pinned c e (end_rule c op n)
  pin-end op n = by_end c n (λ (op : ℕ) (t : Acted). e ≡ Ended op n → Pinned c e t) (λ o i. pin-each n i) (λ op r is. carries c Keep refl) op

pub pinned : (c : Core) (e : Event) → Pinned c e (act_on c e)
unfolding act_on
pinned c Nothing = carries c Nothing c Keep refl
pinned c (Named op) = pin-name c (Named op) op
pinned c (Pair n) = pin-pair c (Pair n) n
pinned c (Ended op n) = pin-end c (Ended op n) op n refl
pinned c (Refused k) = refuses c (Refused k) (of_reader refl)

-- ---- a label

label-step : (r : Reader) (b : ℕ) → r.mode ≡ Label → (b ≡ label_end → ⊥) → step_of r b ≡ record { reader = r; event = Nothing }
unfolding step_of by_mode label_of quiet_of go_on_of
label-step r b l n =
    ap (by_mode r b) l
    ∙ ap (λ (t : Bool). cond t (quiet_of r Idle) (quiet_of r Label)) (ne_eqb b label_end n)
    ∙ (λ i. record { reader = record { mode = sym l i; op = r.op; numbers = r.numbers; number = r.number }; event = Nothing })

-- "its text up to byte 3 is passed over": where nothing waits, a byte of it changes nothing
pub label-passes : (m : State) (b : ℕ) → m.reader.mode ≡ Label → occupied m.work ≡ false → (b ≡ label_end → ⊥) →
    (take_state m b ≡ with_work m work.Nothing) × (take_number m b ≡ 0)
unfolding take_state take_number acted noted noting remembering remembered act_on done applied reader_after stored queued
label-passes m b l w n =
    let s : step_of m.reader b ≡ record { reader = m.reader; event = Nothing } = label-step m.reader b l n in (
      ap (λ (t : Bool). cond t m (applied m (step_of m.reader b).reader (acted m b))) w
          ∙ ap (λ (x : Step). applied m x.reader (noted (act_on m.core x.event))) s,
      ap (λ (t : Bool). cond t busy (acted m b).number) w ∙ ap (λ (x : Step). (act_on m.core x.event).number) s,
    )

pub label-stays : (m : State) (b : ℕ) → m.reader.mode ≡ Label → m.work ≡ work.Nothing → (b ≡ label_end → ⊥) → (take_state m b ≡ m) × (take_number m b ≡ 0)
unfolding occupied waiting replying replied
label-stays m b l w n =
    let p = label-passes m b l (ap occupied w) n in
    (p.0 ∙ (λ i. with_work m (sym w i)), p.1)

-- ---- a take

-- "20 | take while a segment waits", or a reply, and the reader's 1, 2 and 3
pub data TakeNumber : ℕ → Type 0 where
  none : TakeNumber 0
  one : TakeNumber 1
  two : TakeNumber 2
  three : TakeNumber 3
  six : TakeNumber 6
  seven : TakeNumber 7
  twenty : TakeNumber 20

second : (x y : Bool) → T (x && y) → T y
second true y t = t
second false y t = absurd t

reader-number : (n : ℕ) → T (is_cause n) → TakeNumber n
reader-number zero h = absurd h
reader-number (suc zero) h = one
reader-number (suc (suc zero)) h = two
reader-number (suc (suc (suc zero))) h = three
reader-number (suc (suc (suc (suc n)))) h = absurd (omega (arith, most (suc (suc (suc (suc n)))) h))
  where
    most : (k : ℕ) → T (is_cause k) → k ≤ 3
    most k t = leb→le k 3 (second (leb 1 k) (leb k 3) t)

event-number : (e : Event) (n : ℕ) → Caused e → Cause e n → TakeNumber n
event-number e n h none = none
event-number e n h not_known = one
event-number e n h range = three
event-number e n h far = six
event-number e n h full = seven
event-number e n h (of_reader q) = reader-number n (rw q at h)

-- none of a rule is 20: a take gives it while something waits, and then alone
event-free : (e : Event) (n : ℕ) → Caused e → Cause e n → n ≡ busy → ⊥
event-free e n h none z = omega (arith, z)
event-free e n h not_known z = omega (arith, z)
event-free e n h range z = omega (arith, z)
event-free e n h far z = omega (arith, z)
event-free e n h full z = omega (arith, z)
event-free e n h (of_reader q) z = omega (arith, z, leb→le n 3 (second (leb 1 n) (leb n 3) (rw q at h)))

pub take-free : (m : State) (b : ℕ) → occupied m.work ≡ false → take_number m b ≡ busy → ⊥
unfolding take_number acted noted
take-free m b w z =
    event-free (step_of m.reader b).event _ (step-caused m.reader b) (pinned m.core (step_of m.reader b).event).cause
    (ap (λ (t : Bool). cond t busy (acted m b).number) (sym w) ∙ z)

pub take-number : (m : State) (b : ℕ) → TakeNumber (take_number m b)
unfolding take_number acted noted
take-number m b =
    pick TakeNumber (occupied m.work) twenty
    (event-number (step_of m.reader b).event _ (step-caused m.reader b) (pinned m.core (step_of m.reader b).event).cause)
