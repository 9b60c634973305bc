-- Every event that the reader gives may be handed to the core, and after each byte the reader is as a valid machine has it.
-- Why: the reader keeps its numbers small and refuses with 1, 2 or 3, and in polygon mode only an instruction that is known there is read and ends.
use Rattle.std.specs.Prelude.{◌≡◌, refl, Bool, true, false, ◌&&◌, ℕ, ◌<◌, T, leb, eqb}
use Rattle.std.proofs.Common.{arith, leb-true}
use Rattle.reader.specs.declared.Event.{Event}
use Rattle.reader.specs.declared.Event.TheVariants.{Nothing, Named, Pair, Ended, Refused}
use Rattle.reader.specs.declared.Reader.{Reader}
use Rattle.reader.specs.Step.{step_of}
use Rattle.reader.specs.Sizes.{is_cause, Caused, Sized, Readable}
use Rattle.reader.proofs.Laws.{cause-law, step-law, passed-over-law}
use Rattle.reader.specs.InsideLaws.{Leads, step-tells}
use Rattle.hpgl.specs.declared.Core.{Core}
use Rattle.hpgl.specs.declared.State.{State}
use Rattle.hpgl.specs.Machine.{reader_after, acted}
use Rattle.hpgl.specs.Valid.{ValidEvent, Knows, Valid}
use Rattle.hpgl.specs.Rules.{noting, noted}
use Rattle.hpgl.proofs.Cases.{pick}
use Rattle.hpgl.proofs.OpenInstruction.{knows_after, ends-known}

cause-small : (n : ℕ) → T (is_cause n) → n < 256
cause-small n t = go (leb 1 n) (leb n 3) refl t
  where
    go : (a b : Bool) → leb n 3 ≡ b → T (a && b) → n < 256
    go true true e t = omega (arith, leb-true n 3 e)
    go true false e t = absurd t
    go false b e t = absurd t

event-valid : (c : Core) (r s : Reader) (e : Event) → Sized e → Caused e → Leads r s e → Knows c r → ValidEvent c e
event-valid c r s Nothing h k t w = tt
event-valid c r s (Named op) h k t w = h
event-valid c r s (Pair p) h k t w = h
event-valid c r s (Ended op n) h k t w = (h, ends-known c r s (Ended op n) t w op n refl)
event-valid c r s (Refused n) h k t w = cause-small n k

pub step-event : {m : State} (b : ℕ) → Valid m → ValidEvent m.core (step_of m.reader b).event
step-event {m} b w =
    event-valid m.core m.reader (step_of m.reader b).reader (step_of m.reader b).event
    (step-law m.reader w.reader b).event (cause-law m.reader b) (step-tells m.reader b) w.known

pub readable-after : {m : State} (b : ℕ) → Valid m → Readable (reader_after (step_of m.reader b).reader (acted m b).number)
unfolding reader_after
readable-after {m} b w =
    let h = (step-law m.reader w.reader b).reader in
    pick Readable (eqb (acted m b).number 0) h (passed-over-law (step_of m.reader b).reader h)

pub known-after : {m : State} (b : ℕ) → Valid m → Knows (acted m b).core (reader_after (step_of m.reader b).reader (acted m b).number)
unfolding acted noted noting Knows
known-after {m} b w = knows_after m.core m.reader (step_of m.reader b).reader (step_of m.reader b).event (step-tells m.reader b) w.known
