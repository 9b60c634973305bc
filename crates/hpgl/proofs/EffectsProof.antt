-- The rules change just what Effects.antt names. By cases over the rules, one lemma each: every leaf carries out, and then both sides are the same record, or refuses and
-- leaves the core. Where the position rests, the turn there and back is the point itself.
use Rattle.std.specs.Prelude.{◌≡◌, Bool, ◌&&◌, ◌||◌, ℕ, ◌+◌, ◌/◌, ◌<◌, leb, ltb, eqb, ℤ}
use Rattle.std.proofs.Math.Path.{refl, ap}
use Rattle.std.proofs.Common.{sym, ◌∙◌, true≢false, arith, ltb-true}
use Rattle.std.proofs.Math.Bool.{true, false, cond, not}
use Rattle.std.proofs.Math.IntN.{pos, nat_abs}
use Rattle.exact.specs.Whole.{◌≡?◌, ◌≤?◌, ≡?-true, eq-≡?, ne-≡?}
use Rattle.clip.specs.declared.Point.{Point}
use Rattle.reader.specs.declared.Coordinates.{Coordinates}
use Rattle.reader.specs.declared.Numbers.{Numbers}
use Rattle.reader.specs.declared.Event.{Event}
use Rattle.mnemonics.specs.Table as code
use Rattle.mnemonics.specs.Table.{known_in_polygon}
use Rattle.plane.specs.Bounds.{most_angle}
use Rattle.turns.specs.Turn.{turn_count, find_turn, turned_back_of}
use Rattle.turns.proofs.TurnLaws.{back-forth}
use Rattle.turns.proofs.TurnsSaid.{quarters-found}
use Rattle.plane.proofs.CircleLaws.{vertex-point-split}
use Rattle.hpgl.proofs.Cases.{pick, choose, whether}
use Rattle.hpgl.specs.declared.Position.{Position}
use Rattle.hpgl.specs.declared.Scale.{Scale}
use Rattle.hpgl.specs.declared.Window.{Window}
use Rattle.hpgl.specs.declared.Polygon.{Polygon}
use Rattle.hpgl.specs.declared.Carriage.{Carriage}
use Rattle.hpgl.specs.declared.Settings.{Settings}
use Rattle.hpgl.specs.declared.Core.{Core}
use Rattle.hpgl.specs.declared.Action.TheVariants.{Keep, Rectangle}
use Rattle.hpgl.specs.declared.Acted.{Acted}
use Rattle.hpgl.specs.Numbers.{unknown, out_of_range, too_far, polygon_full, polygon_bytes, mode_bytes, point_bytes, most_pen, least_angle}
use Rattle.hpgl.specs.Place.{rounded, axis_x, axis_y, location, in_range, rest_at, page_point}
use Rattle.hpgl.specs.Change.{with_position, with_relative, with_polygon, with_carriage, with_corners, with_scale, with_window}
use Rattle.hpgl.specs.Rules.{done, refuse, unscaled, no_window, inked, fresh_settings, no_polygon, fresh_carriage, letters, name_rule, rebased, in_rule, df_rule, good_corners, set_corners, carried, ip_rule, sc_rule, set_turn, turn_to, ro_rule, set_window, iw_rule, set_pen, sp_rule, move_to, point_cost, longer, edge_to, store_point, aimed, go_to, pair_rule, begun, pm0, closes, ended_with, ended, pm1_in, pm1, leave, pm2_in, pm2, pm_rule, ep_rule, rectangular, rectangle_to, ea_rule, er_rule, circle_fits, circle_with, chord_angle, ci_rule, swept_angle, way_from, arc, last_vertex, follow, arc_about, aa_rule, ar_rule, oa_rule, op_rule, ow_rule, oh_rule, oe_rule, noting, end_rule, act_on}
use Rattle.hpgl.specs.Replies.{remembered, remembering}
use Rattle.hpgl.specs.Instruction.{Instruction, IN, DF, EP, IP, SC, IW, RO, SP, PM, CI, EA, ER, AA, AR, OA, OP, OW, OH, OE, PU, PD, PA, PR}
use Rattle.hpgl.specs.Related.{Sound}
use Rattle.hpgl.proofs.ArcCases.{by-arc}
use Rattle.hpgl.specs.Effects as effects
use Rattle.hpgl.specs.Effects.{◌▸◌, pen_number, corners, scale, turn, window, position, polygon, asked, changed_by, Happens, nothing, name, pair, end, refused, remembers}

module _ (c : Core) where
  record Obeys {e : Event} (k : Happens e) (t : Acted) : Type 0 where
    is : t.core ≡ changed_by k c t.number t.core.carriage.polygon

  -- a rule that sets a part to a where it is carried out, and else leaves the core
  record Sets {A : Type 0} (f : A → Core) (a : A) (t : Acted) : Type 0 where
    is : t.core ≡ cond (eqb t.number 0) (f a) c

  sets : {A : Type 0} (f : A → Core) (a : A) (d : Core) → d ≡ f a → Sets f a (done d Keep)
  unfolding done
  sets f a d e = record { is = e }

  leaves : {A : Type 0} (f : A → Core) (a : A) → Sets f a (refuse c out_of_range)
  unfolding refuse
  leaves f a = record { is = refl }

  -- ---- names

  lettered : (op : ℕ) → with_carriage c (letters c.carriage op) ≡ effects.at_name op c
  unfolding letters
  lettered op =
      choose Same (eqb op code.PU) refl (choose Same (eqb op code.PD) refl (choose Same (eqb op code.PA) refl (choose Same (eqb op code.PR) refl refl)))
    where
      Same : Carriage → Core → Type 0
      Same k d = with_carriage c k ≡ d

  sets-letters : {op : ℕ} (i : Instruction op) → Obeys (name i) (done (with_carriage c (letters c.carriage op)) Keep)
  unfolding done
  sets-letters {op} i = record { is = lettered op }

  refuses-name : {op : ℕ} (i : Instruction op) → Obeys (name i) (refuse c unknown)
  unfolding refuse
  refuses-name i = record { is = refl }

  obeys-name : {op : ℕ} (i : Instruction op) → Obeys (name i) (name_rule c op)
  unfolding name_rule
  obeys-name {op} i = pick (Obeys (name i)) (c.carriage.polygon.mode && not (known_in_polygon op)) (refuses-name i) (sets-letters i)

  -- ---- pairs

  obeys-store : (n : Coordinates) → c.carriage.polygon.mode ≡ true → Obeys (pair n) (store_point c (aimed c n))
  unfolding store_point point_cost longer aimed done refuse
  obeys-store n e =
      pick (Obeys (pair n)) (leb (c.carriage.polygon.bytes + point_cost c.carriage.pen) polygon_bytes)
      (record { is = rw e refl }) (record { is = refl })

  obeys-move : (n : Coordinates) → c.carriage.polygon.mode ≡ false → Obeys (pair n) (move_to c (aimed c n))
  unfolding move_to aimed done
  obeys-move n e = record { is = rw e refl }

  obeys-pair : (n : Coordinates) → Obeys (pair n) (pair_rule c n)
  unfolding pair_rule go_to refuse
  obeys-pair n =
      pick (Obeys (pair n)) (in_range (location c.settings (aimed c n))) (whether (Obeys (pair n)) c.carriage.polygon.mode (obeys-store n) (obeys-move n))
      (record { is = refl })

  -- ---- settings

  obeys-in : (n : Numbers) → Obeys (end IN n) (in_rule c)
  unfolding in_rule fresh_settings fresh_carriage no_polygon done
  obeys-in n = record { is = refl }

  windowed : Window → Core
  windowed w = c ▸ window w

  sets-iw : (n : Numbers) → Sets windowed (effects.new_window c n) (iw_rule c n)
  unfolding iw_rule set_window windowed
  sets-iw n = choose (Sets windowed) (eqb n.count 0) (sets windowed _ _ refl) (pick (Sets windowed _) (in_range _ && in_range _) (sets windowed _ _ refl) (leaves windowed _))

  to_turn : ℕ → Core
  to_turn t = c ▸ turn t ▸ position (rest_at (turned_back_of (effects.page c) t))

  turned : ℤ → Core
  turned k = to_turn (nat_abs k / 90)

  sets-turn : (z : ℤ) → Sets turned z (turn_to c z)
  unfolding turn_to set_turn rebased to_turn turned
  sets-turn z =
      whether (Sets turned z) (ltb (find_turn z) turn_count) (λ e. sets turned z _ (sym (ap to_turn (quarters-found z (ltb-true (find_turn z) turn_count e)))))
      (λ e. leaves turned z)

  sets-ro : (n : Numbers) → Sets turned (asked n) (ro_rule c n)
  unfolding ro_rule
  sets-ro n = choose (Sets turned) (eqb n.count 0) (sets-turn (pos 0)) (sets-turn _)

  penned : ℤ → Core
  penned k = c ▸ pen_number (nat_abs k)

  sets-sp : (n : Numbers) → Sets penned (asked n) (sp_rule c n)
  unfolding sp_rule set_pen penned
  sets-sp n =
      choose (Sets penned) (eqb n.count 0) (sets penned (pos 0) _ refl)
      (pick (Sets penned _) ((pos 0 ≤? rounded n.first) && (rounded n.first ≤? pos most_pen)) (sets penned _ _ refl) (leaves penned _))

  module _ (h : c.settings.turn < turn_count) where
    -- "B becomes the location": the page point turned back; with new settings s, for the carriage k
    settles : (s : Settings) (k : Carriage) →
        ◌≡◌ {A = Core} (record { settings = s; carriage = with_position k (rest_at (turned_back_of (page_point c.settings c.carriage.position) c.settings.turn)) })
        (record { settings = s; carriage = with_position k (effects.at_rest c) })
    unfolding page_point
    settles s k = ap (λ (p : Point). record { settings = s; carriage = with_position k (rest_at p) }) (back-forth _ c.settings.turn h)

    obeys-df : (n : Numbers) → Obeys (end DF n) (df_rule c)
    unfolding df_rule rebased done
    obeys-df n = record { is = settles (with_window (with_scale c.settings unscaled) no_window) (with_relative c.carriage false) }

    record Corners (p q : Point) (t : Acted) : Type 0 where
      is : t.core ≡ cond (eqb t.number 0) (c ▸ corners p q ▸ position (effects.at_rest c)) c

    sets-corners : (p q : Point) → Corners p q (set_corners c p q)
    unfolding set_corners rebased done refuse
    sets-corners p q = by (good_corners p q)
      where
        by : (b : Bool) → Corners p q (cond b (done (rebased c (with_corners c.settings p q)) Keep) (refuse c out_of_range))
        by true = record { is = settles (with_corners c.settings p q) c.carriage }
        by false = record { is = refl }

    sets-ip : (n : Numbers) → Corners (effects.new_p1 c n) (effects.new_p2 c n) (ip_rule c n)
    unfolding ip_rule fresh_settings carried
    sets-ip n = by (eqb n.count 0) (eqb n.count 2) _ _ _ _ _
      where
        by : (s t : Bool) (p q u v w : Point) →
            Corners (cond s p u) (cond s q (cond t v w)) (cond s (set_corners c p q) (cond t (set_corners c u v) (set_corners c u w)))
        by true t p q u v w = sets-corners p q
        by false true p q u v w = sets-corners u v
        by false false p q u v w = sets-corners u w

    scaled : Scale → Core
    scaled k = c ▸ scale k ▸ position (effects.at_rest c)

    sets-sc : (n : Numbers) → Sets scaled (effects.new_scale n) (sc_rule c n)
    unfolding sc_rule rebased scaled
    sets-sc n =
        choose (Sets scaled) (eqb n.count 0) (sets scaled _ _ (settles _ c.carriage))
        (pick (Sets scaled _) (n.first ≡? n.second) (leaves scaled _) (pick (Sets scaled _) (n.third ≡? n.fourth) (leaves scaled _) (sets scaled _ _ (settles _ c.carriage))))

  -- ---- polygon mode

  record Moded (zero? one? two? : Bool) (t : Acted) : Type 0 where
    is : let g = t.core.carriage.polygon in
        t.core ≡ cond (eqb t.number 0) (cond zero? (effects.begins c g) (cond one? (effects.ends c g) (effects.leaves c (effects.closing_bytes c) g)))
        (cond (eqb t.number 7 && two?) (effects.leaves c 0 g) c)

  moded-0 : (s t : Bool) → Moded true s t (pm0 c)
  unfolding pm0 begun done refuse
  moded-0 s t = by c.carriage.polygon.mode
    where
      by : (b : Bool) → Moded true s t (cond b (refuse c out_of_range) (done (with_carriage c (with_polygon c.carriage (begun c.carriage))) Keep))
      by true = record { is = refl }
      by false = record { is = refl }

  moded-1 : Moded false true false (pm1 c)
  unfolding pm1 pm1_in ended ended_with done refuse
  moded-1 = pick (Moded false true false) c.carriage.polygon.mode (whether (Moded false true false) (closes c) closing whole) outside
    where
      outside : Moded false true false (refuse c out_of_range)
      outside = record { is = refl }

      full : Moded false true false (refuse c polygon_full)
      full = record { is = refl }

      added : closes c ≡ true → Moded false true false (done (ended c (mode_bytes + point_bytes) 1 c.carriage.polygon.first) (edge_to c c.carriage.polygon.first))
      added e = record { is = rw e refl }

      closing : closes c ≡ true → Moded false true false
          (cond (leb (c.carriage.polygon.bytes + (mode_bytes + point_bytes)) polygon_bytes)
          (done (ended c (mode_bytes + point_bytes) 1 c.carriage.polygon.first) (edge_to c c.carriage.polygon.first)) (refuse c polygon_full))
      closing e = pick (Moded false true false) (leb (c.carriage.polygon.bytes + (mode_bytes + point_bytes)) polygon_bytes) (added e) full

      kept : closes c ≡ false → Moded false true false (done (ended c mode_bytes 0 c.carriage.position) Keep)
      kept e = record { is = rw e refl }

      whole : closes c ≡ false → Moded false true false
          (cond (leb (c.carriage.polygon.bytes + mode_bytes) polygon_bytes) (done (ended c mode_bytes 0 c.carriage.position) Keep) (refuse c polygon_full))
      whole e = pick (Moded false true false) (leb (c.carriage.polygon.bytes + mode_bytes) polygon_bytes) (kept e) full

  moded-2 : Moded false false true (pm2 c)
  unfolding pm2 pm2_in leave ended_with done refuse
  moded-2 = pick (Moded false false true) c.carriage.polygon.mode (whether (Moded false false true) (closes c) closing whole) outside
    where
      outside : Moded false false true (refuse c out_of_range)
      outside = record { is = refl }

      full : Moded false false true (refuse (leave c 0 0) polygon_full)
      full = record { is = refl }

      added : closes c ≡ true → Moded false false true (done (leave c point_bytes 1) (edge_to c c.carriage.polygon.first))
      added e = record { is = rw e refl }

      closing : closes c ≡ true → Moded false false true
          (cond (leb (c.carriage.polygon.bytes + point_bytes) polygon_bytes) (done (leave c point_bytes 1) (edge_to c c.carriage.polygon.first))
          (refuse (leave c 0 0) polygon_full))
      closing e = pick (Moded false false true) (leb (c.carriage.polygon.bytes + point_bytes) polygon_bytes) (added e) full

      whole : closes c ≡ false → Moded false false true (done (leave c 0 0) Keep)
      whole e = record { is = rw e refl }

  -- by the number, of which no two tests hold
  moded-by : (r s t : Bool) → (s ≡ true → t ≡ false) → Moded r s t (cond r (pm0 c) (cond s (pm1 c) (cond t (pm2 c) (refuse c out_of_range))))
  unfolding refuse
  moded-by true s t x = moded-0 s t
  moded-by false true true x = absurd (true≢false (x refl))
  moded-by false true false x = moded-1
  moded-by false false true x = moded-2
  moded-by false false false x = record { is = refl }

  sets-pm : (n : Numbers) → Moded (asked n ≡? pos 0) (asked n ≡? pos 1) (asked n ≡? pos 2) (pm_rule c n)
  unfolding pm_rule
  sets-pm n = by (eqb n.count 0) (rounded n.first)
    where
      one-two : pos 1 ≡ pos 2 → ⊥
      one-two e = omega (arith, ap nat_abs e)

      by : (b : Bool) (k : ℤ) → let a = cond b (pos 0) k in
          Moded (a ≡? pos 0) (a ≡? pos 1) (a ≡? pos 2) (cond b (pm0 c) (cond (k ≡? pos 0) (pm0 c) (cond (k ≡? pos 1) (pm1 c) (cond (k ≡? pos 2) (pm2 c) (refuse c out_of_range)))))
      by true k = rw (eq-≡? {a = pos 0} {b = pos 0} refl) (moded-0 _ _)
      by false k = moded-by (k ≡? pos 0) (k ≡? pos 1) (k ≡? pos 2) (λ e. ne-≡? (λ f. one-two (sym (≡?-true k (pos 1) e) ∙ f)))

  -- ---- rectangles, circles

  carries-rectangle : (p : Position) → Sets (λ (g : Polygon). c ▸ polygon g false 49) (rectangle_to c p).core.carriage.polygon (rectangle_to c p)
  unfolding rectangle_to rectangular done refuse
  carries-rectangle p = by (in_range (location c.settings p))
    where
      by : (b : Bool) → let t = cond b (done (with_carriage c (with_polygon c.carriage (rectangular c.carriage.polygon))) (Rectangle (location c.settings c.carriage.position) (location c.settings p) (inked c))) (refuse c too_far) in
          Sets (λ (g : Polygon). c ▸ polygon g false 49) t.core.carriage.polygon t
      by true = record { is = refl }
      by false = record { is = refl }

  carries-circle : (n : Numbers) → (ci_rule c n).core ≡ c
  unfolding ci_rule circle_with done refuse
  carries-circle n =
      pick (λ (t : Acted). t.core ≡ c) ((pos least_angle ≤? chord_angle n) && (chord_angle n ≤? pos most_angle))
      (pick (λ (t : Acted). t.core ≡ c) (circle_fits c n.first) refl refl) refl

  -- an arc, about q: where both widths are not 0, the last vertex is what the code finds from the split centre
  sets-arc : (q : Position) (n : Numbers) → Sound c.settings → Sets (λ (p : Point). c ▸ position (rest_at p)) (effects.arc_end c q n) (arc_about c q n)
  unfolding follow arc last_vertex done refuse
  sets-arc q n w =
      by-arc c q n (Sets (λ (p : Point). c ▸ position (rest_at p)) (effects.arc_end c q n))
      (λ h. record { is = ap (λ (p : Point). c ▸ position (rest_at p)) (vertex-point-split (axis_x c.settings) (axis_y c.settings) q.x q.y (way_from c q) (swept_angle n) w.x w.y) })
      (record { is = refl }) (record { is = refl })

  -- ---- every event

  same : (k : ℕ) → c ≡ cond (eqb k 0) c c
  same k = either (eqb k 0)
    where
      either : (b : Bool) → c ≡ cond b c c
      either true = refl
      either false = refl

  obeys-end : {op : ℕ} (i : Instruction op) (n : Numbers) → Sound c.settings → Obeys (end i n) (end_rule c op n)
  unfolding end_rule ea_rule er_rule ep_rule aa_rule ar_rule oa_rule op_rule ow_rule oh_rule oe_rule done windowed to_turn turned penned scaled
  obeys-end IN n h = obeys-in n
  obeys-end DF n h = obeys-df h.turn n
  obeys-end EP n h = record { is = refl }
  obeys-end IP n h = record { is = (sets-ip h.turn n).is }
  obeys-end SC n h = record { is = (sets-sc h.turn n).is }
  obeys-end IW n h = record { is = (sets-iw n).is }
  obeys-end RO n h = record { is = (sets-ro n).is }
  obeys-end SP n h = record { is = (sets-sp n).is }
  obeys-end PM n h = record { is = (sets-pm n).is }
  obeys-end CI n h = record { is = carries-circle n ∙ same (ci_rule c n).number }
  obeys-end EA n h = record { is = (carries-rectangle _).is }
  obeys-end ER n h = record { is = (carries-rectangle _).is }
  obeys-end AA n h = record { is = (sets-arc _ n h).is }
  obeys-end AR n h = record { is = (sets-arc _ n h).is }
  obeys-end OA n h = record { is = refl }
  obeys-end OP n h = record { is = refl }
  obeys-end OW n h = record { is = refl }
  obeys-end OH n h = record { is = refl }
  obeys-end OE n h = record { is = refl }
  obeys-end PU n h = record { is = refl }
  obeys-end PD n h = record { is = refl }
  obeys-end PA n h = record { is = refl }
  obeys-end PR n h = record { is = refl }

-- what an event changes is what Effects.antt names
pub obeyed : (c : Core) {e : Event} (k : Happens e) → Sound c.settings → let t = act_on c e in t.core ≡ changed_by k c t.number t.core.carriage.polygon
unfolding act_on done refuse
obeyed c nothing h = refl
obeyed c (name i) h = (obeys-name c i).is
obeyed c (pair n) h = (obeys-pair c n).is
obeyed c (end i n) h = (obeys-end c i n h).is
obeyed c (refused k) h = refl

-- and its number is remembered
pub remembers-so : (k : ℕ) (c : Core) → noting k c ≡ remembers k c
unfolding noting remembering remembered
remembers-so k c = by (eqb k 1 || eqb k 2 || eqb k 3 || eqb k 6 || eqb k 7)
  where
    by : (b : Bool) → ◌≡◌ {A = Core} (c ▸ effects.refusal (cond b k c.carriage.memory.refusal)) (cond b (c ▸ effects.refusal k) c)
    by true = refl
    by false = refl
