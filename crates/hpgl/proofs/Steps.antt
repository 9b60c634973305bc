-- What an event does to the machine and to the model: one lemma for each rule, in the order of Rules.antt. Each is the rule's definition with its leaves replaced:
-- a leaf that carries out shows what its action stores and queues to be what the model adds; a leaf that refuses leaves both as they are.
use Rattle.std.specs.Prelude.{◌≡◌, ◌&&◌, leb, ltb, ◌-ℤ◌}
use Rattle.std.proofs.Math.Path.{refl, sym, ap, subst}
use Rattle.std.proofs.Common.{◌∙◌}
use Rattle.std.proofs.Math.Bool.{Bool, true, false, cond, not}
use mathlib.Core.List.{List, [], ◌∷◌}
use Prim.Native.Nat.{ℕ, zero, suc, ◌+◌, ◌*◌, ◌≤◌, ◌<◌}
use native.Mathlib.Omega.{arith}
use borrow.Author.Tests.{leb-true, ltb-true}
use Rattle.std.proofs.Math.Dec.{eqb}
use Rattle.std.proofs.Math.IntN.{ℤ, pos, nat_abs, +ℤ_idr}
use Rattle.exact.specs.Whole.{◌≡?◌, ◌≤?◌, is, Z, ≡?-false}
use Rattle.clip.specs.Line.{nearest}
use Rattle.clip.specs.declared.Point.{Point}
use Rattle.clip.specs.declared.Rect.{Rect}
use Rattle.reader.specs.declared.Coordinates.{Coordinates}
use Rattle.reader.specs.declared.Numbers.{Numbers}
use Rattle.reader.specs.declared.Event.{Event}
use Rattle.reader.specs.declared.Event.TheVariants.{Nothing, Named, Pair, Ended, Refused}
use Rattle.mnemonics.specs.Table.{IN, DF, EP, IP, SC, IW, RO, SP, PM, CI, EA, ER, PU, PD, PA, PR, AA, AR, OA, OP, OW, OH, OE, cell_of, known_in_polygon}
use Rattle.plane.specs.Bounds.{most_angle}
use Rattle.plane.specs.Position.{axis_of, relative_of, location_of}
use Rattle.turns.specs.Turn.{turn_count, find_turn, turned_of, ordered_of}
use Rattle.plane.specs.declared.circle.Way.{Way}
use Rattle.plane.specs.declared.circle.Centre.{Centre}
use Rattle.plane.specs.Circle.{chords_of, angle_of, rotated_of, vertex_point_of, centre_of, point_from_centre}
use Rattle.plane.specs.Arc.{parts_of, bend_of, arc_point}
use Rattle.plane.proofs.CircleLaws.{vertex-nearest, vertex-point-split, point-0}
use Rattle.plane.proofs.ArcLaws.{circle-arc, arc-nearest, arc-split}
use Rattle.hpgl.proofs.Cases.{never, pick, cond-true, cond-false}
use Rattle.hpgl.specs.declared.Position.{Position}
use Rattle.hpgl.specs.declared.Window.{Window}
use Rattle.hpgl.specs.declared.Settings.{Settings}
use Rattle.hpgl.specs.declared.Pen.{Pen}
use Rattle.hpgl.specs.declared.Polygon.{Polygon}
use Rattle.hpgl.specs.declared.Carriage.{Carriage}
use Rattle.hpgl.specs.declared.Core.{Core}
use Rattle.hpgl.specs.declared.Edge.{Edge}
use Rattle.hpgl.specs.declared.Action.{Action}
use Rattle.hpgl.specs.declared.Action.TheVariants.{Keep, Line, Chords, Outline, Answer}
use Rattle.hpgl.specs.declared.Reply.{Reply}
use Rattle.hpgl.specs.declared.Acted.{Acted}
use Rattle.hpgl.specs.declared.Work.TheVariants as work
use Rattle.hpgl.specs.Numbers.{polygon_bytes, mode_bytes, point_bytes, most_pen, least_angle, whole_turn}
use Rattle.hpgl.specs.Place.{point, rounded, axis_x, axis_y, exact_position, location, in_range, absolute_position, relative_position, page_point}
use Rattle.hpgl.specs.Change.{with_position, with_pen, with_polygon, with_settings, with_carriage, with_corners, with_scale, with_turn, with_window}
use Rattle.hpgl.proofs.Ends as ends
use Rattle.hpgl.proofs.Ends.{Works, Rests, other, by_end}
use Rattle.hpgl.specs.Rules.{done, refuse, unscaled, no_window, fresh_settings, no_polygon, fresh_carriage, letters, name_rule, rebased, in_rule, df_rule, good_corners, set_corners, ip_rule, sc_rule, set_turn, turn_to, ro_rule, set_window, iw_rule, set_pen, sp_rule, inked, spent, move_to, point_cost, longer, edge_to, store_point, aimed, go_to, pair_rule, begun, pm0, differ, closes, ended_with, ended, pm1_in, pm1, leave, pm2_in, pm2, pm_rule, ep_rule, rectangular, rectangle_to, first_two, ea_rule, er_rule, circle_fits, circle, circle_with, chord_angle, ci_rule, swept_angle, arc_angle, way_from, arc, follow, arc_about, aa_rule, ar_rule, oa_rule, op_rule, ow_rule, oh_rule, oe_rule, noting, noted, end_rule, act_on}
use Rattle.hpgl.specs.Replies.{remembered, remembering}
use Rattle.hpgl.specs.Machine.{vertex_in, vertex, rectangle_edges, stored, queued}
use Rattle.hpgl.specs.ExactModel.{ExactPolygon, ExactSegment, exact_segment, outline, vertex_at, arc_vertex, path, last_of, rectangle, polygon_mode, after_end, polygon_after, inked_only, move, arc_moves, instructed, added}
use Rattle.hpgl.specs.Related.{Sound, Fit, edges_from, edges_of, edges_after, all_edges, polygon_edges, some, Linked, turned_edges, chords_from, view, on_page}
use Rattle.hpgl.proofs.ArcCases.{by-arc}
use Rattle.hpgl.proofs.PolygonLinked.{location-nearest, grown, ended-closed, ended-open, rectangle-linked, turned-outline}

-- ---- the model after an event with a number

unfoldable pub polygon_by : Core → Core → Event → ℕ → ExactPolygon → ExactPolygon
polygon_by c d e zero g = polygon_after c d e g
polygon_by c d e (suc k) g = g

unfoldable pub added_by : Core → Core → Event → ℕ → ExactPolygon → List ExactSegment
added_by c d e zero g = added c d e (polygon_after c d e g)
added_by c d e (suc k) g = []

-- From the core c to d, by an action: the core is fit, the store is that of the polygon g, and what waits is gs.
pub record Matched (c d : Core) (a : Action) (es : List Edge) (g : ExactPolygon) (gs : List ExactSegment) : Type 0 where
  pub fit : Fit d.settings d.carriage.polygon
  pub linked : Linked d.settings d.carriage.position d.carriage.polygon (stored es c.carriage.polygon.edges a) g
  pub queue :
      let after : List Edge = stored es c.carriage.polygon.edges a in
      view d.settings after (queued d.settings.turn after d.carriage.polygon.edges a) ≡ on_page gs

pub record Keeps (c : Core) (es : List Edge) (g : ExactPolygon) (e : Event) (t : Acted) : Type 0 where
  pub kept : Matched c t.core t.action es (polygon_by c t.core e t.number g) (added_by c t.core e t.number g)

-- ---- settings

ten-thousand : pos 10000 ≡ pos 0 → ⊥
ten-thousand e = let z : ◌≡◌ {A = ℕ} 10000 0 = cc in omega arith

-- a width is that of the scale alone
same_width : (on : Bool) (p q p' q' lo hi : ℤ) → (axis_of on p q lo hi).width ≡ (axis_of on p' q' lo hi).width
unfolding axis_of
same_width true p q p' q' lo hi = refl
same_width false p q p' q' lo hi = refl

apart : (a b : ℤ) → (a ≡? b) ≡ false → b -ℤ a ≡ pos 0 → ⊥
apart a b h e = ≡?-false a b h (go a b e)
  where
    go : (a b : ℤ) → b -ℤ a ≡ pos 0 → a ≡ b
    go a b = rw (is a, is b) (simp Z (omega arith))

pub sound-fresh : (r : Rect) → Sound (fresh_settings r)
unfolding fresh_settings axis_x axis_y axis_of
sound-fresh r = record { x = ten-thousand; y = ten-thousand; turn = omega arith }

sound-corners : (s : Settings) (p q : Point) → Sound s → Sound (with_corners s p q)
unfolding axis_x axis_y
sound-corners s p q w = record {
  x = λ e. w.x (same_width s.scale.on _ _ _ _ _ _ ∙ e);
  y = λ e. w.y (same_width s.scale.on _ _ _ _ _ _ ∙ e);
  turn = w.turn;
}

sound-unscaled : (s : Settings) → Sound s → Sound (with_scale s unscaled)
unfolding axis_x axis_y axis_of
sound-unscaled s w = record { x = ten-thousand; y = ten-thousand; turn = w.turn }

sound-scaled : (s : Settings) (a b c d : ℤ) → (a ≡? b) ≡ false → (c ≡? d) ≡ false → Sound s →
    Sound (with_scale s (record { on = true; x = record { min = a; max = b }; y = record { min = c; max = d } }))
unfolding axis_x axis_y axis_of
sound-scaled s a b c d h k w = record { x = apart a b h; y = apart c d k; turn = w.turn }

sound-turn : (s : Settings) (t : ℕ) → t < turn_count → Sound s → Sound (with_turn s t)
unfolding axis_x axis_y
sound-turn s t h w = record { x = w.x; y = w.y; turn = h }

sound-window : (s : Settings) (k : Window) → Sound s → Sound (with_window s k)
unfolding axis_x axis_y
sound-window s k w = record { x = w.x; y = w.y; turn = w.turn }

-- ---- cases

-- "Pen 0 queues nothing": z is whether the pen is 0
by-ink : (P : Action → List ExactSegment → Type 0) (z : Bool) (a : Action) (gs : List ExactSegment) → P a gs → P Keep [] → P (cond (not z) a Keep) (cond z [] gs)
by-ink P true a gs h k = k
by-ink P false a gs h k = h

-- "With pen down and pen not 0": b is the action a, or none
by-pen : (P : Action → List ExactSegment → Type 0) (down z : Bool) {a b : Action} {gs : List ExactSegment} → b ≡ cond (down && not z) a Keep → P a gs → P Keep [] →
    P b (cond down (cond z [] gs) [])
by-pen P down z {a} {b} {gs} e h k = rw e (go down)
  where
    go : (down : Bool) → P (cond (down && not z) a Keep) (cond down (cond z [] gs) [])
    go true = by-ink P z a gs h k
    go false = k

-- the edges that wait, drawn or not
drawn-edges : (s : Settings) (es : List Edge) (n : ℕ) (gs : List ExactSegment) (z : Bool) → turned_edges s.turn (edges_from es 0 n) ≡ on_page gs →
    view s es (cond (not z) (work.Edges 0 n) work.Nothing) ≡ on_page (cond z [] gs)
unfolding view on_page
drawn-edges s es n gs true h = refl
drawn-edges s es n gs false h = h

cost : (p : Pen) → point_bytes ≤ point_cost p
unfolding point_cost
cost p = pick (λ (n : ℕ). point_bytes ≤ n) p.changed (omega arith) (omega arith)

-- a point takes the bytes of an edge and makes at most one
more_room : (empty : Bool) (e b n : ℕ) → point_bytes ≤ n → mode_bytes + point_bytes + point_bytes * e ≤ b → mode_bytes + point_bytes + point_bytes * cond empty e (e + 1) ≤ b + n
more_room true e b n h k = omega arith
more_room false e b n h k = omega arith

module _ (c : Core) (es : List Edge) (g : ExactPolygon) (f : Fit c.settings c.carriage.polygon)
    (l : Linked c.settings c.carriage.position c.carriage.polygon es g) where
  both : {e : Event} (t : Bool) {x y : Acted} → Keeps c es g e x → Keeps c es g e y → Keeps c es g e (cond t x y)
  both true h k = h
  both false h k = k

  when : {e : Event} (t : Bool) {x y : Acted} → (t ≡ true → Keeps c es g e x) → (t ≡ false → Keeps c es g e y) → Keeps c es g e (cond t x y)
  when true h k = h refl
  when false h k = k refl

  -- refused, with the core d: the model's polygon and queue stay
  leaves : (e : Event) (d : Core) (n : ℕ) → Fit d.settings d.carriage.polygon → Linked d.settings d.carriage.position d.carriage.polygon es g →
      Keeps c es g e (refuse d (suc n))
  unfolding refuse polygon_by added_by stored queued view on_page
  leaves e d n h k = record { kept = record { fit = h; linked = k; queue = refl } }

  refused : (e : Event) (n : ℕ) → Keeps c es g e (refuse c (suc n))
  refused e n = leaves e c n f l

  -- carried out, and neither the polygon nor the queue gets anything
  calm : (e : Event) (d : Core) → polygon_after c d e g ≡ g → added c d e (polygon_after c d e g) ≡ [] → Fit d.settings d.carriage.polygon →
      Linked d.settings d.carriage.position d.carriage.polygon es g → Keeps c es g e (done d Keep)
  unfolding done polygon_by added_by stored queued view on_page
  calm e d p q h k = record {
    kept = record {
      fit = h;
      linked = subst (λ (x : ExactPolygon). Linked d.settings d.carriage.position d.carriage.polygon es x) (sym p) k;
      queue = ap on_page (sym q);
    };
  }

  -- the same with a reply, which is no segment
  tells : (e : Event) (d : Core) (r : Reply) → polygon_after c d e g ≡ g → added c d e (polygon_after c d e g) ≡ [] → Fit d.settings d.carriage.polygon →
      Linked d.settings d.carriage.position d.carriage.polygon es g → Keeps c es g e (done d (Answer r))
  unfolding done polygon_by added_by stored queued view on_page
  tells e d r p q h k = record {
    kept = record {
      fit = h;
      linked = subst (λ (x : ExactPolygon). Linked d.settings d.carriage.position d.carriage.polygon es x) (sym p) k;
      queue = ap on_page (sym q);
    };
  }

  -- ---- names

  keeps-name : (op : ℕ) → Keeps c es g (Named op) (name_rule c op)
  unfolding name_rule letters polygon_after added
  keeps-name op =
      let P : Carriage → Type 0 = λ k. Keeps c es g (Named op) (done (with_carriage c k) Keep) in
      let penned : (k : Carriage) → k.position ≡ c.carriage.position → k.polygon ≡ c.carriage.polygon → P k =
      λ k p q. calm (Named op) (with_carriage c k) refl refl (rw q f) (rw (p, q) l) in
      both (c.carriage.polygon.mode && not (known_in_polygon op)) (refused (Named op) 0)
      (pick P (eqb op PU) (penned _ refl refl)
      (pick P (eqb op PD) (penned _ refl refl)
      (pick P (eqb op PA) (penned _ refl refl)
      (pick P (eqb op PR) (penned _ refl refl)
      (penned c.carriage refl refl)))))

  -- ---- settings

  keeps-in : (n : Numbers) → Keeps c es g (Ended IN n) (in_rule c)
  unfolding in_rule done fresh_carriage no_polygon polygon_by added_by polygon_after after_end added instructed stored queued view on_page edges_from polygon_edges all_edges edges_of
  keeps-in n = record {
    kept = record {
      fit = record { sound = sound-fresh c.settings.hard; room = λ h. never refl h };
      linked = record { size = l.size; edges = refl; current = λ h. never refl h };
      queue = refl;
    };
  }

  -- outside polygon mode nothing is asked of the position
  free : (d : Core) → c.carriage.polygon.mode ≡ false → d.carriage.polygon ≡ c.carriage.polygon → Sound d.settings →
      Fit d.settings d.carriage.polygon × Linked d.settings d.carriage.position d.carriage.polygon es g
  free d o k w =
      let m : d.carriage.polygon.mode ≡ false = ap (λ (x : Polygon). x.mode) k ∙ o in (
        record { sound = w; room = λ h. never m h },
        record { size = l.size; edges = ap (λ (x : Polygon). edges_from es 0 x.edges) k ∙ l.edges; current = λ h. never m h },
      )

  settles : (e : Event) (d : Core) → polygon_after c d e g ≡ g → added c d e (polygon_after c d e g) ≡ [] → c.carriage.polygon.mode ≡ false →
      d.carriage.polygon ≡ c.carriage.polygon → Sound d.settings → Keeps c es g e (done d Keep)
  settles e d p q o k w = let h = free d o k w in calm e d p q h.0 h.1

  -- refused: that the position stays, too, is for Pins.antt to say
  stays : (e : Event) (d : Core) (n : ℕ) → c.carriage.polygon.mode ≡ false → d.settings ≡ c.settings → d.carriage.polygon ≡ c.carriage.polygon →
      Keeps c es g e (refuse d (suc n))
  stays e d n o s k = let h = free d o k (rw s f.sound) in leaves e d n h.0 h.1

  keeps-df : (n : Numbers) → c.carriage.polygon.mode ≡ false → Keeps c es g (Ended DF n) (df_rule c)
  unfolding df_rule rebased polygon_after after_end added instructed
  keeps-df n o = settles (Ended DF n) _ refl refl o refl (sound-window (with_scale c.settings unscaled) no_window (sound-unscaled c.settings f.sound))

  keeps-corners : (n : Numbers) (p q : Point) → c.carriage.polygon.mode ≡ false → Keeps c es g (Ended IP n) (set_corners c p q)
  unfolding set_corners rebased polygon_after after_end added instructed
  keeps-corners n p q o = both (good_corners p q) (settles (Ended IP n) _ refl refl o refl (sound-corners c.settings p q f.sound)) (stays (Ended IP n) _ 2 o refl refl)

  keeps-ip : (n : Numbers) → c.carriage.polygon.mode ≡ false → Keeps c es g (Ended IP n) (ip_rule c n)
  unfolding ip_rule
  keeps-ip n o = both (eqb n.count 0) (keeps-corners n _ _ o) (both (eqb n.count 2) (keeps-corners n _ _ o) (keeps-corners n _ _ o))

  keeps-sc : (n : Numbers) → c.carriage.polygon.mode ≡ false → Keeps c es g (Ended SC n) (sc_rule c n)
  unfolding sc_rule rebased polygon_after after_end added instructed
  keeps-sc n o =
      both (eqb n.count 0) (settles (Ended SC n) _ refl refl o refl (sound-unscaled c.settings f.sound))
      (when (n.first ≡? n.second) (λ x. stays (Ended SC n) _ 2 o refl refl)
      (λ x. when (n.third ≡? n.fourth) (λ y. stays (Ended SC n) _ 2 o refl refl)
      (λ y. settles (Ended SC n) _ refl refl o refl (sound-scaled c.settings n.first n.second n.third n.fourth x y f.sound))))

  keeps-turn : (n : Numbers) (t : ℕ) → t < turn_count → c.carriage.polygon.mode ≡ false → Keeps c es g (Ended RO n) (set_turn c t)
  unfolding set_turn rebased polygon_after after_end added instructed
  keeps-turn n t h o = settles (Ended RO n) _ refl refl o refl (sound-turn c.settings t h f.sound)

  keeps-to : (n : Numbers) (z : ℤ) → c.carriage.polygon.mode ≡ false → Keeps c es g (Ended RO n) (turn_to c z)
  unfolding turn_to
  keeps-to n z o = when (ltb (find_turn z) turn_count) (λ e. keeps-turn n (find_turn z) (ltb-true (find_turn z) turn_count e) o) (λ e. stays (Ended RO n) _ 2 o refl refl)

  keeps-ro : (n : Numbers) → c.carriage.polygon.mode ≡ false → Keeps c es g (Ended RO n) (ro_rule c n)
  unfolding ro_rule
  keeps-ro n o = both (eqb n.count 0) (keeps-to n _ o) (keeps-to n _ o)

  keeps-window : (n : Numbers) (k : Window) → c.carriage.polygon.mode ≡ false →
      Keeps c es g (Ended IW n) (done (with_settings c (with_window c.settings k)) Keep)
  unfolding polygon_after after_end added instructed
  keeps-window n k o = settles (Ended IW n) _ refl refl o refl (sound-window c.settings k f.sound)

  keeps-iw : (n : Numbers) → c.carriage.polygon.mode ≡ false → Keeps c es g (Ended IW n) (iw_rule c n)
  unfolding iw_rule set_window
  keeps-iw n o =
      let p : Point = location c.settings (absolute_position c.settings (record { x = n.first; y = n.second })) in
      let q : Point = location c.settings (absolute_position c.settings (record { x = n.third; y = n.fourth })) in
      both (eqb n.count 0) (keeps-window n no_window o)
      (both (in_range p && in_range q) (keeps-window n (record { set = true; area = ordered_of p q }) o) (stays (Ended IW n) _ 2 o refl refl))

  keeps-pen : (n : Numbers) (k : ℕ) → Keeps c es g (Ended SP n) (set_pen c k)
  unfolding set_pen polygon_after after_end added instructed
  keeps-pen n k = calm (Ended SP n) _ refl refl f l

  keeps-sp : (n : Numbers) → Keeps c es g (Ended SP n) (sp_rule c n)
  unfolding sp_rule
  keeps-sp n =
      both (eqb n.count 0) (keeps-pen n 0)
      (both ((pos 0 ≤? rounded n.first) && (rounded n.first ≤? pos most_pen)) (keeps-pen n (nat_abs (rounded n.first))) (refused (Ended SP n) 2))

  -- ---- pairs

  recast : {d : Core} {a : Action} {x y : ExactPolygon} {u v : List ExactSegment} → x ≡ y → u ≡ v → Matched c d a es y v → Matched c d a es x u
  recast p q h = rw (p, q) h

  keeps-move : (n : Coordinates) (p : Position) → c.carriage.polygon.mode ≡ false → Keeps c es g (Pair n) (move_to c p)
  unfolding move_to done inked page_point polygon_by added_by polygon_after added move inked_only exact_segment stored queued view on_page
  keeps-move n p o =
      let s : Settings = c.settings in
      let d : Core = with_carriage c (with_position (with_pen c.carriage (spent c.carriage.pen)) p) in
      let down : Bool = c.carriage.pen.down in
      let z : Bool = eqb c.carriage.pen.number 0 in
      let line : ExactSegment = exact_segment d (exact_position s c.carriage.position) (exact_position s p) true in
      let adds : added c d (Pair n) (polygon_after c d (Pair n) g) ≡ cond down (cond z [] (line ∷ [])) [] = cond-false _ _ _ o in
      let acts : (move_to c p).action ≡ cond (down && not z) (Line (page_point s c.carriage.position) (page_point s p)) Keep = refl in
      let moved : Linked s p c.carriage.polygon es g = record { size = l.size; edges = l.edges; current = λ h. never o h } in
      record {
        kept = recast (cond-false _ _ _ o) adds
            (by-pen (λ (a : Action) (gs : List ExactSegment). Matched c d a es g gs) down z acts
            (record {
              fit = f;
              linked = moved;
              queue = λ i. record {
                start = turned_of (location-nearest s c.carriage.position f.sound i) s.turn;
                end = turned_of (location-nearest s p f.sound i) s.turn;
                shown = true;
              } ∷ [];
            })
            (record { fit = f; linked = moved; queue = refl }));
      }

  keeps-store : (n : Coordinates) (p : Position) → c.carriage.polygon.mode ≡ true → Keeps c es g (Pair n) (store_point c p)
  unfolding store_point done edge_to longer polygon_by added_by polygon_after added move stored queued view on_page
  keeps-store n p o =
      let k : Polygon = c.carriage.polygon in
      let more : ℕ = point_cost c.carriage.pen in
      when (leb (k.bytes + more) polygon_bytes)
      (λ e. let h : k.bytes + more ≤ polygon_bytes = leb-true _ _ e in
      let r : mode_bytes + point_bytes + point_bytes * k.edges ≤ k.bytes = f.room o in
      let q : point_bytes ≤ more = cost c.carriage.pen in
      record {
        kept = recast (cond-true _ _ _ o) (cond-true _ _ _ o) (record {
          fit = record { sound = f.sound; room = λ m. more_room k.empty k.edges k.bytes more q r };
          linked = grown c.settings f.sound c.carriage.position p k more c.carriage.pen.down es g (omega arith) o l;
          queue = pick (λ (a : Action). let after : List Edge = stored es k.edges a in view c.settings after (queued c.settings.turn after (cond k.empty k.edges (k.edges + 1)) a) ≡ []) k.empty refl refl;
        });
      })
      (λ e. refused (Pair n) 6)

  keeps-pair : (n : Coordinates) → Keeps c es g (Pair n) (pair_rule c n)
  unfolding pair_rule go_to
  keeps-pair n =
      both (in_range (location c.settings (aimed c n)))
      (when c.carriage.polygon.mode (λ o. keeps-store n (aimed c n) o) (λ o. keeps-move n (aimed c n) o))
      (refused (Pair n) 5)

  -- ---- polygons

  keeps-pm0 : (n : Numbers) → Keeps c es g (Ended PM n) (pm0 c)
  unfolding pm0 done begun polygon_by added_by polygon_after after_end polygon_mode added instructed stored queued view on_page edges_from polygon_edges all_edges edges_of edges_after last_of
  keeps-pm0 n =
      when c.carriage.polygon.mode (λ o. refused (Ended PM n) 2)
      (λ o. record {
        kept = recast (cond-false _ _ _ o) refl (record {
          fit = record { sound = f.sound; room = λ h. omega arith };
          linked = record { size = l.size; edges = refl; current = λ h. some refl refl };
          queue = refl;
        });
      })

  keeps-pm1 : (n : Numbers) → c.carriage.polygon.mode ≡ true → Keeps c es g (Ended PM n) (pm1_in c)
  unfolding pm1_in closes done ended edge_to ended_with polygon_by added_by polygon_after after_end polygon_mode added instructed stored queued view on_page
  keeps-pm1 n o =
      let k : Polygon = c.carriage.polygon in
      let p : Position = c.carriage.position in
      let r : mode_bytes + point_bytes + point_bytes * k.edges ≤ k.bytes = f.room o in
      when (not k.empty && differ (location c.settings p) (location c.settings k.first))
      (λ e. when (leb (k.bytes + (mode_bytes + point_bytes)) polygon_bytes)
      (λ b. let h : k.bytes + (mode_bytes + point_bytes) ≤ polygon_bytes = leb-true _ _ b in
      record {
        kept = recast (cond-true _ _ _ o) refl (record {
          fit = record { sound = f.sound; room = λ m. omega arith };
          linked = ended-closed c.settings f.sound p _ k true (mode_bytes + point_bytes) c.carriage.pen.down es g (omega arith) o e l;
          queue = refl;
        });
      })
      (λ b. refused (Ended PM n) 6))
      (λ e. both (leb (k.bytes + mode_bytes) polygon_bytes)
      (record {
        kept = recast (cond-true _ _ _ o) refl (record {
          fit = record { sound = f.sound; room = λ m. omega arith };
          linked = ended-open c.settings f.sound p p k true mode_bytes c.carriage.pen.down es g o e l;
          queue = refl;
        });
      })
      (refused (Ended PM n) 6))

  keeps-pm2 : (n : Numbers) → c.carriage.polygon.mode ≡ true → Keeps c es g (Ended PM n) (pm2_in c)
  unfolding pm2_in closes done refuse leave edge_to ended_with polygon_by added_by polygon_after after_end polygon_mode added instructed stored queued view on_page
  keeps-pm2 n o =
      let k : Polygon = c.carriage.polygon in
      let p : Position = c.carriage.position in
      let back : Position = k.saved.position in
      let r : mode_bytes + point_bytes + point_bytes * k.edges ≤ k.bytes = f.room o in
      let same : k.edges + 0 ≡ k.edges = omega arith in
      when (not k.empty && differ (location c.settings p) (location c.settings k.first))
      (λ e. when (leb (k.bytes + point_bytes) polygon_bytes)
      (λ b. let h : k.bytes + point_bytes ≤ polygon_bytes = leb-true _ _ b in
      record {
        kept = recast (cond-true _ _ _ o) refl (record {
          fit = record { sound = f.sound; room = λ m. never refl m };
          linked = ended-closed c.settings f.sound p back k false point_bytes c.carriage.pen.down es g (omega arith) o e l;
          queue = refl;
        });
      })
      (λ b. record {
        kept = record {
          fit = record { sound = f.sound; room = λ m. never refl m };
          linked = record { size = l.size; edges = ap (edges_from es 0) same ∙ l.edges; current = λ m. never refl m };
          queue = refl;
        };
      }))
      (λ e. record {
        kept = recast (cond-true _ _ _ o) refl (record {
          fit = record { sound = f.sound; room = λ m. never refl m };
          linked = ended-open c.settings f.sound p back k false 0 c.carriage.pen.down es g o e l;
          queue = refl;
        });
      })

  keeps-pm : (n : Numbers) → Keeps c es g (Ended PM n) (pm_rule c n)
  unfolding pm_rule pm1 pm2
  keeps-pm n =
      both (eqb n.count 0) (keeps-pm0 n)
      (both (rounded n.first ≡? pos 0) (keeps-pm0 n)
      (both (rounded n.first ≡? pos 1) (when c.carriage.polygon.mode (keeps-pm1 n) (λ o. refused (Ended PM n) 2))
      (both (rounded n.first ≡? pos 2) (when c.carriage.polygon.mode (keeps-pm2 n) (λ o. refused (Ended PM n) 2))
      (refused (Ended PM n) 2))))

  keeps-ep : (n : Numbers) → Keeps c es g (Ended EP n) (ep_rule c)
  unfolding ep_rule done inked polygon_by added_by polygon_after after_end added instructed inked_only stored queued view on_page
  keeps-ep n = record {
    kept = by-ink (λ (a : Action) (gs : List ExactSegment). Matched c c a es g gs) (eqb c.carriage.pen.number 0) Outline (outline c g)
        (record { fit = f; linked = l; queue = ap (turned_edges c.settings.turn) l.edges ∙ turned-outline c g })
        (record { fit = f; linked = l; queue = refl });
  }

  -- the polygon is the rectangle to p, and is drawn
  keeps-rectangle : (e : Event) (p : Position) →
      ((d : Core) → polygon_after c d e g ≡ rectangle c.settings c.carriage.position p) →
      ((d : Core) (x : ExactPolygon) → added c d e x ≡ inked_only d (outline d x)) → Keeps c es g e (rectangle_to c p)
  unfolding rectangle_to rectangular done inked inked_only polygon_by added_by stored queued
  keeps-rectangle e p a b =
      let d : Core = with_carriage c (with_polygon c.carriage (rectangular c.carriage.polygon)) in
      let at : Position = c.carriage.position in
      let r : ExactPolygon = rectangle c.settings at p in
      let k : Linked c.settings at (rectangular c.carriage.polygon) (rectangle_edges es (location c.settings at) (location c.settings p)) r =
      rectangle-linked c.settings f.sound at p at c.carriage.polygon es l.size in
      both (in_range (location c.settings p))
      (record {
        kept = recast (a d) (ap (added c d e) (a d) ∙ b d r) (record {
          fit = record { sound = f.sound; room = λ m. never refl m };
          linked = k;
          queue = drawn-edges c.settings _ 4 (outline d r) (eqb c.carriage.pen.number 0)
              (ap (turned_edges c.settings.turn) k.edges ∙ turned-outline d r);
        });
      })
      (refused e 5)

  keeps-ea : (n : Numbers) → Keeps c es g (Ended EA n) (ea_rule c n)
  unfolding ea_rule polygon_after after_end added instructed
  keeps-ea n = keeps-rectangle (Ended EA n) (absolute_position c.settings (first_two n)) (λ d. refl) (λ d x. refl)

  keeps-er : (n : Numbers) → Keeps c es g (Ended ER n) (er_rule c n)
  unfolding er_rule polygon_after after_end added instructed
  keeps-er n = keeps-rectangle (Ended ER n) (relative_position c.carriage.position (first_two n)) (λ d. refl) (λ d x. refl)

  -- ---- circles

  -- vertex zero is the point at 0 degrees
  same_start : (r : ℤ) → let s = c.settings in let p = c.carriage.position in
      (circle c r 0).start ≡ point_from_centre (centre_of (axis_x s) p.x) (centre_of (axis_y s) p.y) (record { u = r; v = pos 0 }) (pos 0)
  unfolding circle location relative_position relative_of
  same_start r =
      let s : Settings = c.settings in
      let p : Position = c.carriage.position in
      (λ j. point (location_of (axis_x s) (relative_of p.x r)) (location_of (axis_y s) (record { base = p.y.base; offset = +ℤ_idr p.y.offset j })))
      ∙ sym (point-0 (axis_x s) (axis_y s) p.x p.y r f.sound.x f.sound.y)
      ∙ sym (vertex-point-split (axis_x s) (axis_y s) p.x p.y (record { u = r; v = pos 0 }) (pos 0) f.sound.x f.sound.y)

  same-vertex : (r : ℤ) (a i : ℕ) → vertex c.settings (circle c r a) i ≡ turned_of (nearest (vertex_at c r a i)) c.settings.turn
  unfolding vertex vertex_in circle vertex_at vertex_point_of
  same-vertex r a i =
      let s : Settings = c.settings in
      let p : Position = c.carriage.position in
      let w : Way = rotated_of (record { u = r; v = pos 0 }) (angle_of a i) in
      let cx : Centre = centre_of (axis_x s) p.x in
      let cy : Centre = centre_of (axis_y s) p.y in
      ap (λ (x : Point). turned_of x s.turn)
      (ap (λ (x : Point). arc_point x cx cy (record { u = r; v = pos 0 }) (pos whole_turn) a i) (same_start r)
      ∙ circle-arc cx cy (record { u = r; v = pos 0 }) a i
      ∙ vertex-point-split (axis_x s) (axis_y s) p.x p.y (record { u = r; v = pos 0 }) (angle_of a i) f.sound.x f.sound.y
      ∙ (λ j. point (vertex-nearest (axis_x s) p.x w.u f.sound.x j) (vertex-nearest (axis_y s) p.y w.v f.sound.y j)))

  same-chords : (r : ℤ) (a i n : ℕ) → chords_from c.settings (circle c r a) i n ≡ on_page (path c (vertex_at c r a) i n)
  unfolding chords_from path on_page exact_segment
  same-chords r a i zero = refl
  same-chords r a i (suc n) = λ j. record { start = same-vertex r a i j; end = same-vertex r a (i + 1) j; shown = true } ∷ same-chords r a (i + 1) n j

  keeps-ci : (n : Numbers) → Keeps c es g (Ended CI n) (ci_rule c n)
  unfolding ci_rule circle_with done inked circle polygon_by added_by polygon_after after_end added instructed inked_only stored queued view on_page parts_of chords_of
  keeps-ci n =
      let a : ℤ = chord_angle n in
      both ((pos least_angle ≤? a) && (a ≤? pos most_angle))
      (both (circle_fits c n.first)
      (record {
        kept = by-ink (λ (x : Action) (gs : List ExactSegment). Matched c c x es g gs) (eqb c.carriage.pen.number 0) (Chords (circle c n.first (nat_abs a)))
            (path c (vertex_at c n.first (nat_abs a)) 0 (chords_of (nat_abs a)))
            (record { fit = f; linked = l; queue = same-chords n.first (nat_abs a) 0 (chords_of (nat_abs a)) })
            (record { fit = f; linked = l; queue = refl });
      })
      (refused (Ended CI n) 5))
      (refused (Ended CI n) 2)

  -- ---- arcs

  same-bend : (q : Position) (s : ℤ) (a i : ℕ) → vertex c.settings (arc c q s a) i ≡ turned_of (nearest (arc_vertex c q s a i)) c.settings.turn
  unfolding vertex vertex_in arc arc_vertex location
  same-bend q s a i =
      let k : Settings = c.settings in
      let p : Position = c.carriage.position in
      let w : Way = rotated_of (way_from c q) (bend_of s a i) in
      ap (λ (x : Point). turned_of x k.turn)
      (arc-split (axis_x k) (axis_y k) p.x p.y q.x q.y (way_from c q) s a i f.sound.x f.sound.y
      ∙ (λ j. point (arc-nearest (axis_x k) p.x q.x w.u i f.sound.x j) (arc-nearest (axis_y k) p.y q.y w.v i f.sound.y j)))

  -- the core after it has another carriage
  same-bends : (k : Carriage) (q : Position) (s : ℤ) (a i n : ℕ) → chords_from c.settings (arc c q s a) i n ≡ on_page (path (with_carriage c k) (arc_vertex c q s a) i n)
  unfolding chords_from path on_page exact_segment
  same-bends k q s a i zero = refl
  same-bends k q s a i (suc n) = λ j. record { start = same-bend q s a i j; end = same-bend q s a (i + 1) j; shown = true } ∷ same-bends k q s a (i + 1) n j

  keeps-arc : (e : Event) (q : Position) (n : Numbers) → c.carriage.polygon.mode ≡ false → ((d : Core) → polygon_after c d e g ≡ g) →
      ((d : Core) (x : ExactPolygon) → added c d e x ≡ arc_moves c d q n) → Keeps c es g e (arc_about c q n)
  unfolding follow arc done inked polygon_by added_by arc_moves inked_only stored queued view on_page
  keeps-arc e q n o a b =
      by-arc c q n (Keeps c es g e) (λ p. carried) (refused e 5) (refused e 2)
    where
      k : ℕ
      k = nat_abs (arc_angle n)

      d : Core
      d = (follow c (arc c q (swept_angle n) k)).core

      carried : Keeps c es g e (follow c (arc c q (swept_angle n) k))
      carried =
          let x = free d o refl f.sound in
          record {
            kept = recast (a d) (b d _)
                (by-pen (λ (t : Action) (gs : List ExactSegment). Matched c d t es g gs) c.carriage.pen.down (eqb c.carriage.pen.number 0) refl
                (record { fit = x.0; linked = x.1; queue = same-bends _ q (swept_angle n) k 0 (parts_of (swept_angle n) k) })
                (record { fit = x.0; linked = x.1; queue = refl }));
          }

  -- ---- every event

  -- an instruction that is not known in polygon mode does not end there
  outside : (c.carriage.polygon.mode ≡ true → false ≡ true) → c.carriage.polygon.mode ≡ false
  outside known = go c.carriage.polygon.mode known
    where
      go : (m : Bool) → (m ≡ true → false ≡ true) → m ≡ false
      go true u = never refl (u refl)
      go false u = refl

  Ends : Numbers → ℕ → Acted → Type 0
  Ends n op t = (c.carriage.polygon.mode ≡ true → known_in_polygon op ≡ true) → Keeps c es g (Ended op n) t

  keeps-each : (n : Numbers) {op : ℕ} → Works op → Ends n op (end_rule c op n)
  unfolding Ends end_rule aa_rule ar_rule oa_rule op_rule ow_rule oh_rule oe_rule known_in_polygon cell_of polygon_after after_end added instructed
  keeps-each n ends.IN known = keeps-in n
  keeps-each n ends.DF known = keeps-df n (outside known)
  keeps-each n ends.EP known = keeps-ep n
  keeps-each n ends.IP known = keeps-ip n (outside known)
  keeps-each n ends.SC known = keeps-sc n (outside known)
  keeps-each n ends.IW known = keeps-iw n (outside known)
  keeps-each n ends.RO known = keeps-ro n (outside known)
  keeps-each n ends.SP known = keeps-sp n
  keeps-each n ends.PM known = keeps-pm n
  keeps-each n ends.CI known = keeps-ci n
  keeps-each n ends.EA known = keeps-ea n
  keeps-each n ends.ER known = keeps-er n
  keeps-each n ends.AA known = keeps-arc (Ended AA n) _ n (outside known) (λ d. refl) (λ d x. refl)
  keeps-each n ends.AR known = keeps-arc (Ended AR n) _ n (outside known) (λ d. refl) (λ d x. refl)
  keeps-each n ends.OA known = tells (Ended OA n) _ _ refl refl f l
  keeps-each n ends.OP known = tells (Ended OP n) _ _ refl refl f l
  keeps-each n ends.OW known = tells (Ended OW n) _ _ refl refl f l
  keeps-each n ends.OH known = tells (Ended OH n) _ _ refl refl f l
  keeps-each n ends.OE known = tells (Ended OE n) _ _ refl refl f l

  keeps-rest : (n : Numbers) (op : ℕ) → Rests op → Ends n op (done c Keep)
  unfolding Ends polygon_after after_end added instructed
  keeps-rest n op r known =
      calm (Ended op n) c (rw (other r IN refl, other r PM refl, other r EA refl, other r ER refl) refl)
      (rw (other r EP refl, other r EA refl, other r ER refl, other r CI refl, other r AA refl, other r AR refl) refl) f l

  pub keeps : (e : Event) → ((op : ℕ) (n : Numbers) → e ≡ Ended op n → c.carriage.polygon.mode ≡ true → known_in_polygon op ≡ true) → Keeps c es g e (act_on c e)
  unfolding act_on done refuse polygon_after added Ends
  keeps Nothing known = calm Nothing c refl refl f l
  keeps (Named op) known = keeps-name op
  keeps (Pair n) known = keeps-pair n
  keeps (Ended op n) known = by_end c n (Ends n) (λ o i. keeps-each n i) (keeps-rest n) op (known op n refl)
  keeps (Refused zero) known = calm (Refused 0) c refl refl f l
  keeps (Refused (suc k)) known = refused (Refused (suc k)) k

-- what is remembered of it changes neither polygon nor queue
pub keeps-noted : {c : Core} {es : List Edge} {g : ExactPolygon} {e : Event} {t : Acted} → Keeps c es g e t → Keeps c es g e (noted t)
unfolding noted noting remembering remembered polygon_by added_by
keeps-noted {c} {es} {g} {e} {t} h = record { kept = go t.number h.kept }
  where
    go : (k : ℕ) → Matched c t.core t.action es (polygon_by c t.core e k g) (added_by c t.core e k g) →
        Matched c (noting k t.core) t.action es (polygon_by c (noting k t.core) e k g) (added_by c (noting k t.core) e k g)
    go zero m = m
    go (suc k) m = record { fit = m.fit; linked = m.linked; queue = m.queue }
