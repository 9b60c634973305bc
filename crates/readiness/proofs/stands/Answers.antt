-- The proof of `stands`: by its three tests; a sound list is light.
use borrow.Author.Rules.{part_to_end}
use Rattle.std.proofs.Common.{◌≡◌, true, false, List, ℤ, drop, sym, ap, ◌∙◌, arith, length-drop}
use Rattle.std.proofs.lemmas.Bool.{false≢true}
use Rattle.rows.specs.Rows.{row_at}
use Rattle.seal.specs.Seal.{header_sound}
use Rattle.wellformed.specs.Sound.{sound_of}
use Rattle.wellformed.proofs.LightLaws.{sound-light}
use Rattle.readiness.specs.Ready.{machine_stands}
use Rattle.readiness.proofs.stands.Goals as goal
use Rattle.readiness.proofs.stands.Goals.{then-header_sound, else-header_sound}

pub sum_stands-requires : goal.sum_stands-requires
sum_stands-requires c =
    let zs : List ℤ = c.args.state.now in
    elim c.if-header_sound.branch [
      | then-header_sound w ↦
          sound-light (drop 5 zs) (omega (arith, c.requires, length-drop 5 zs)) (sym (w.sound.ensures ∙ ap sound_of (part_to_end zs 5)) ∙ sym w.value-is ∙ c.if-sound.true)
      | else-header_sound w ↦ absurd (false≢true (sym w.if-header_sound.false ∙ sym w.value-is ∙ c.if-sound.true))
    ]

pub returns-then-sound : goal.returns-then-sound
unfolding machine_stands
returns-then-sound c =
    let zs : List ℤ = c.args.state.now in
    elim c.if-header_sound.branch [
      | then-header_sound w ↦
          let header : header_sound (row_at zs 0) ≡ true = sym (c.header_sound.ensures ∙ ap header_sound c.row_at.ensures) ∙ w.if-header_sound.true in
          let sound : sound_of (drop 5 zs) ≡ true = sym (w.sound.ensures ∙ ap sound_of (part_to_end zs 5)) ∙ sym w.value-is ∙ c.if-sound.true in
          rw (header, sound) c.sum_stands.ensures
      | else-header_sound w ↦ absurd (false≢true (sym w.if-header_sound.false ∙ sym w.value-is ∙ c.if-sound.true))
    ]

pub returns-else-sound : goal.returns-else-sound
unfolding machine_stands
returns-else-sound c =
    let zs : List ℤ = c.args.state.now in
    elim c.if-header_sound.branch [
      | then-header_sound w ↦
          let header : header_sound (row_at zs 0) ≡ true = sym (c.header_sound.ensures ∙ ap header_sound c.row_at.ensures) ∙ w.if-header_sound.true in
          let sound : sound_of (drop 5 zs) ≡ false = sym (w.sound.ensures ∙ ap sound_of (part_to_end zs 5)) ∙ sym w.value-is ∙ c.if-sound.false in
          rw (header, sound) c.if-sound.false
      | else-header_sound w ↦
          let header : header_sound (row_at zs 0) ≡ false = sym (c.header_sound.ensures ∙ ap header_sound c.row_at.ensures) ∙ w.if-header_sound.false in
          rw header c.if-sound.false
    ]
