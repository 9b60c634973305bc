-- Which events leave a reply: OA, OP, OW, OH and OE, each the one that the exact model makes of it; no other rule hands one on. By cases over the rules, one lemma each.
use Rattle.std.specs.Prelude.{◌≡◌, ◌&&◌, List, leb, ltb, eqb, ℤ}
use Rattle.std.proofs.Math.Path.{refl}
use Rattle.std.proofs.Common.{sym, ◌∙◌}
use Rattle.std.proofs.Math.Bool.{not}
use Prim.Native.Nat.{ℕ, zero, suc, ◌+◌}
use Rattle.std.proofs.Math.IntN.{pos}
use Rattle.exact.specs.Whole.{◌≡?◌, ◌≤?◌}
use Rattle.clip.specs.declared.Point.{Point}
use Rattle.reader.specs.declared.Coordinates.{Coordinates}
use Rattle.reader.specs.declared.Numbers.{Numbers}
use Rattle.reader.specs.declared.Event.{Event}
use Rattle.reader.specs.declared.Event.TheVariants.{Nothing, Named, Pair, Ended, Refused}
use Rattle.mnemonics.specs.Table.{OA, OP, OW, OH, OE, known_in_polygon}
use Rattle.turns.specs.Turn.{turn_count, find_turn}
use Rattle.plane.specs.Bounds.{most_angle}
use Rattle.hpgl.specs.declared.Position.{Position}
use Rattle.hpgl.specs.declared.Core.{Core}
use Rattle.hpgl.specs.declared.Edge.{Edge}
use Rattle.hpgl.specs.declared.Reply.{Reply}
use Rattle.hpgl.specs.declared.Action.{Action}
use Rattle.hpgl.specs.declared.Action.TheVariants as action
use Rattle.hpgl.specs.declared.Acted.{Acted}
use Rattle.hpgl.specs.declared.Work.{Work}
use Rattle.hpgl.specs.Numbers.{polygon_bytes, mode_bytes, point_bytes, most_pen, least_angle}
use Rattle.hpgl.specs.Place.{rounded, location, in_range, absolute_position}
use Rattle.hpgl.specs.Replies.{no_reply, reply_of}
use Rattle.hpgl.proofs.Cases.{pick}
use Rattle.hpgl.proofs.ArcCases.{by-arc}
use Rattle.hpgl.proofs.Ends as ends
use Rattle.hpgl.proofs.Ends.{Works, Rests, other, by_end}
use Rattle.hpgl.specs.Rules.{done, refuse, name_rule, in_rule, df_rule, good_corners, set_corners, ip_rule, sc_rule, set_turn, turn_to, ro_rule, set_window, iw_rule, set_pen, sp_rule, inked, move_to, point_cost, edge_to, store_point, aimed, go_to, pair_rule, pm0, closes, pm1_in, pm1, pm2_in, pm2, pm_rule, ep_rule, rectangle_to, ea_rule, er_rule, circle_fits, circle_with, chord_angle, ci_rule, follow, arc_about, aa_rule, ar_rule, oa_rule, op_rule, ow_rule, oh_rule, oe_rule, end_rule, act_on}
use Rattle.hpgl.specs.Machine.{queued, replied}
use Rattle.hpgl.specs.ExactModel.{answered}

-- ---- what an action leaves waiting

unfoldable pub answer_of : Action → Reply
answer_of action.Keep = no_reply
answer_of (action.Line a b) = no_reply
answer_of (action.Chords o) = no_reply
answer_of (action.Join e) = no_reply
answer_of action.Outline = no_reply
answer_of (action.Rectangle p q shown) = no_reply
answer_of (action.Answer r) = r

pub queued-reply : (t : ℕ) (es : List Edge) (k : ℕ) (a : Action) → replied (queued t es k a) ≡ answer_of a
unfolding queued replied answer_of
queued-reply t es k action.Keep = refl
queued-reply t es k (action.Line a b) = refl
queued-reply t es k (action.Chords o) = refl
queued-reply t es k (action.Join e) = refl
queued-reply t es k action.Outline = refl
queued-reply t es k (action.Rectangle p q shown) = pick (λ (w : Work). replied w ≡ no_reply) shown refl refl
queued-reply t es k (action.Answer r) = refl

-- the model's, after an event with a number
unfoldable pub answered_by : Core → Event → ℕ → Reply
answered_by c e zero = answered c e
answered_by c e (suc k) = no_reply

-- ---- the rules that hand on none

record Silent (t : Acted) : Type 0 where
  is : answer_of t.action ≡ no_reply

module _ (c : Core) where
  refuses : (d : Core) (k : ℕ) → Silent (refuse d k)
  unfolding refuse answer_of
  refuses d k = record { is = refl }

  settles : (d : Core) → Silent (done d action.Keep)
  unfolding done answer_of
  settles d = record { is = refl }

  silent-name : (op : ℕ) → Silent (name_rule c op)
  unfolding name_rule
  silent-name op = pick Silent (c.carriage.polygon.mode && not (known_in_polygon op)) (refuses _ _) (settles _)

  silent-pair : (n : Coordinates) → Silent (pair_rule c n)
  unfolding pair_rule go_to store_point move_to edge_to done answer_of
  silent-pair n =
      pick Silent (in_range (location c.settings (aimed c n)))
      (pick Silent c.carriage.polygon.mode
      (pick Silent (leb (c.carriage.polygon.bytes + point_cost c.carriage.pen) polygon_bytes)
      (record { is = pick (λ (a : Action). answer_of a ≡ no_reply) c.carriage.polygon.empty refl refl }) (refuses _ _))
      (record { is = pick (λ (a : Action). answer_of a ≡ no_reply) (c.carriage.pen.down && inked c) refl refl }))
      (refuses _ _)

  silent-in : Silent (in_rule c)
  unfolding in_rule
  silent-in = settles _

  silent-df : Silent (df_rule c)
  unfolding df_rule
  silent-df = settles _

  silent-corners : (p q : Point) → Silent (set_corners c p q)
  unfolding set_corners
  silent-corners p q = pick Silent (good_corners p q) (settles _) (refuses _ _)

  silent-ip : (n : Numbers) → Silent (ip_rule c n)
  unfolding ip_rule
  silent-ip n = pick Silent (eqb n.count 0) (silent-corners _ _) (pick Silent (eqb n.count 2) (silent-corners _ _) (silent-corners _ _))

  silent-sc : (n : Numbers) → Silent (sc_rule c n)
  unfolding sc_rule
  silent-sc n = pick Silent (eqb n.count 0) (settles _) (pick Silent (n.first ≡? n.second) (refuses _ _) (pick Silent (n.third ≡? n.fourth) (refuses _ _) (settles _)))

  silent-turn : (z : ℤ) → Silent (turn_to c z)
  unfolding turn_to set_turn
  silent-turn z = pick Silent (ltb (find_turn z) turn_count) (settles _) (refuses _ _)

  silent-ro : (n : Numbers) → Silent (ro_rule c n)
  unfolding ro_rule
  silent-ro n = pick Silent (eqb n.count 0) (silent-turn _) (silent-turn _)

  silent-iw : (n : Numbers) → Silent (iw_rule c n)
  unfolding iw_rule set_window
  silent-iw n =
      let p : Point = location c.settings (absolute_position c.settings (record { x = n.first; y = n.second })) in
      let q : Point = location c.settings (absolute_position c.settings (record { x = n.third; y = n.fourth })) in
      pick Silent (eqb n.count 0) (settles _) (pick Silent (in_range p && in_range q) (settles _) (refuses _ _))

  silent-sp : (n : Numbers) → Silent (sp_rule c n)
  unfolding sp_rule set_pen
  silent-sp n = pick Silent (eqb n.count 0) (settles _) (pick Silent ((pos 0 ≤? rounded n.first) && (rounded n.first ≤? pos most_pen)) (settles _) (refuses _ _))

  silent-edge : (d : Core) (p : Position) → Silent (done d (edge_to c p))
  unfolding done edge_to answer_of
  silent-edge d p = record { is = refl }

  silent-pm0 : Silent (pm0 c)
  unfolding pm0
  silent-pm0 = pick Silent c.carriage.polygon.mode (refuses _ _) (settles _)

  silent-pm1 : Silent (pm1 c)
  unfolding pm1 pm1_in
  silent-pm1 =
      pick Silent c.carriage.polygon.mode
      (pick Silent (closes c) (pick Silent (leb (c.carriage.polygon.bytes + (mode_bytes + point_bytes)) polygon_bytes) (silent-edge _ _) (refuses _ _))
      (pick Silent (leb (c.carriage.polygon.bytes + mode_bytes) polygon_bytes) (settles _) (refuses _ _)))
      (refuses _ _)

  silent-pm2 : Silent (pm2 c)
  unfolding pm2 pm2_in
  silent-pm2 =
      pick Silent c.carriage.polygon.mode
      (pick Silent (closes c) (pick Silent (leb (c.carriage.polygon.bytes + point_bytes) polygon_bytes) (silent-edge _ _) (refuses _ _)) (settles _))
      (refuses _ _)

  silent-pm : (n : Numbers) → Silent (pm_rule c n)
  unfolding pm_rule
  silent-pm n =
      pick Silent (eqb n.count 0) silent-pm0
      (pick Silent (rounded n.first ≡? pos 0) silent-pm0
      (pick Silent (rounded n.first ≡? pos 1) silent-pm1 (pick Silent (rounded n.first ≡? pos 2) silent-pm2 (refuses _ _))))

  silent-ep : Silent (ep_rule c)
  unfolding ep_rule done answer_of
  silent-ep = record { is = pick (λ (a : Action). answer_of a ≡ no_reply) (inked c) refl refl }

  silent-rectangle : (p : Position) → Silent (rectangle_to c p)
  unfolding rectangle_to done answer_of
  silent-rectangle p = pick Silent (in_range (location c.settings p)) (record { is = refl }) (refuses _ _)

  silent-ci : (n : Numbers) → Silent (ci_rule c n)
  unfolding ci_rule circle_with done answer_of
  silent-ci n =
      pick Silent ((pos least_angle ≤? chord_angle n) && (chord_angle n ≤? pos most_angle))
      (pick Silent (circle_fits c n.first) (record { is = pick (λ (a : Action). answer_of a ≡ no_reply) (inked c) refl refl }) (refuses _ _))
      (refuses _ _)

  silent-arc : (q : Position) (n : Numbers) → Silent (arc_about c q n)
  unfolding follow done answer_of
  silent-arc q n =
      by-arc c q n Silent (λ p. record { is = pick (λ (a : Action). answer_of a ≡ no_reply) (c.carriage.pen.down && inked c) refl refl }) (refuses _ _) (refuses _ _)

  -- ---- every event

  record Tells (e : Event) (t : Acted) : Type 0 where
    is : answer_of t.action ≡ answered_by c e t.number

  nothing-told : (e : Event) (k : ℕ) → answered c e ≡ no_reply → answered_by c e k ≡ no_reply
  unfolding answered_by
  nothing-told e zero h = h
  nothing-told e (suc k) h = refl

  quiet : {e : Event} {t : Acted} → answered c e ≡ no_reply → Silent t → Tells e t
  quiet {e} {t} h s = record { is = s.is ∙ sym (nothing-told e t.number h) }

  tells-each : (n : Numbers) {op : ℕ} → Works op → Tells (Ended op n) (end_rule c op n)
  unfolding end_rule ea_rule er_rule aa_rule ar_rule oa_rule op_rule ow_rule oh_rule oe_rule done answer_of answered_by answered reply_of
  tells-each n ends.IN = quiet refl silent-in
  tells-each n ends.DF = quiet refl silent-df
  tells-each n ends.EP = quiet refl silent-ep
  tells-each n ends.IP = quiet refl (silent-ip n)
  tells-each n ends.SC = quiet refl (silent-sc n)
  tells-each n ends.IW = quiet refl (silent-iw n)
  tells-each n ends.RO = quiet refl (silent-ro n)
  tells-each n ends.SP = quiet refl (silent-sp n)
  tells-each n ends.PM = quiet refl (silent-pm n)
  tells-each n ends.CI = quiet refl (silent-ci n)
  tells-each n ends.EA = quiet refl (silent-rectangle _)
  tells-each n ends.ER = quiet refl (silent-rectangle _)
  tells-each n ends.AA = quiet refl (silent-arc _ n)
  tells-each n ends.AR = quiet refl (silent-arc _ n)
  tells-each n ends.OA = record { is = refl }
  tells-each n ends.OP = record { is = refl }
  tells-each n ends.OW = record { is = refl }
  tells-each n ends.OH = record { is = refl }
  tells-each n ends.OE = record { is = refl }

  tells-rest : (n : Numbers) (op : ℕ) → Rests op → Tells (Ended op n) (done c action.Keep)
  unfolding answered reply_of
  tells-rest n op r = quiet (rw (other r OA refl, other r OP refl, other r OW refl, other r OH refl, other r OE refl) refl) (settles _)

pub answers : (c : Core) (e : Event) → answer_of (act_on c e).action ≡ answered_by c e (act_on c e).number
unfolding act_on answered
answers c Nothing = (quiet c {e = Nothing} refl (settles c _)).is
answers c (Named op) = (quiet c {e = Named op} refl (silent-name c op)).is
answers c (Pair n) = (quiet c {e = Pair n} refl (silent-pair c n)).is
answers c (Ended op n) = (by_end c n (λ (op : ℕ) (t : Acted). Tells c (Ended op n) t) (λ o i. tells-each c n i) (tells-rest c n) op).is
answers c (Refused k) = (quiet c {e = Refused k} refl (refuses c _ _)).is
