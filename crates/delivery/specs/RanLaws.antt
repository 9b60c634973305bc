-- Laws of a run: from block to block, and within a block from bufferful to bufferful.
use Rattle.std.specs.Prelude.{◌≡◌, ℕ, ◌+◌, ◌%◌, ◌^◌, false, List, [], ◌++◌, length, take, drop, ◌≢◌, Result, Ok, Err}
use Rattle.std.proofs.Common.{append-nil, append_assoc, sym, ◌∙◌, subst, add-zero, zero-add, arith, length-append}
use Rattle.std.proofs.lemmas.Result.{IfOk-at_ok}
use Rattle.std.proofs.Math.Path.{refl, ap}
use Rattle.std.proofs.Math.Nat.{mod-add-mod}
use Rattle.std.proofs.Math.Seq.{drop-length, take-append_seam}
use Rattle.std.proofs.lemmas.List.Edits.{sets-eq}
use Rattle.clip.specs.declared.Rect.{Rect}
use Rattle.hpgl.specs.declared.State.{State}
use Rattle.hpgl.specs.Machine.{occupied, fresh_state, fresh_number}
use Rattle.machine.specs.declared.Machine.{Machine}
use Rattle.machine.specs.declared.Started.{Started}
use Rattle.machine.specs.Calls.{Numbered, started_by, started_of}
use Rattle.decimals.specs.Puts.{Puts}
use Rattle.plotting.specs.declared.Plot.{Plot}
use Rattle.delivery.specs.declared.edge.Tally.{Tally}
use Rattle.delivery.specs.declared.files.Fault.{Fault}
use Rattle.delivery.specs.declared.files.Fault.TheVariants.{Refused, Undelivered}
use Rattle.printed.specs.Printed.{printed}
use Rattle.printed.proofs.PlotPrinted.{idle-end}
use Rattle.plotting.specs.Plotted.{due, begun_of, emptied_of, Ready, Plotted}
use Rattle.delivery.specs.Ran.{Reached, Next, Begins, Leaves, Ran, Unbegun, Within, End}

-- a text that was put at the start of a buffer is what stands there
pub puts_first : {text before after : List ℕ} {at end : ℕ} → at ≡ 0 → Puts text before after at end → take end after ≡ text
puts_first {text} {before} {after} {end} z p =
    let q = subst (λ (a : ℕ). Puts text before after a end) z p in
    ap (λ (n : ℕ). take n after) (q.ends ∙ zero-add (length text)) ∙ ap (take (length text)) (q.list ∙ sets-eq text before 0 (omega (arith, q.ends, q.room)))
    ∙ take-append_seam text (drop (0 + length text) before)

module _ {started : State} {read handed : ℕ} {block : List ℕ} where
  pub reached-as : {rest other : List ℕ → List ℕ} → Reached started read handed block rest → ((later : List ℕ) → rest later ≡ other later)
      → Reached started read handed block other
  reached-as h e = record {
    earlier = h.earlier;
    text = h.text;
    bytes = h.bytes;
    count = h.count;
    prints = λ later. h.prints later ∙ ap (λ (l : List ℕ). h.text ++ l) (e later);
  }

  -- the next part is handed over
  pub reached_then : {still next : ℕ} (part : List ℕ) {rest : List ℕ → List ℕ} → Reached started read handed block (λ later. part ++ rest later)
      → still ≡ read → next ≡ (handed + length part) % 2 ^ 64 → Reached started still next block rest
  reached_then part {rest} h s e = record {
    earlier = h.earlier;
    text = h.text ++ part;
    bytes = s ∙ h.bytes;
    count =
        e ∙ ap (λ (n : ℕ). (n + length part) % 2 ^ 64) h.count ∙ mod-add-mod (length h.text) (2 ^ 64) (length part)
        ∙ ap (λ (n : ℕ). n % 2 ^ 64) (sym (length-append h.text part));
    prints = λ later. h.prints later ∙ sym (append_assoc h.text part (rest later));
  }

-- a run ends where it has reached
pub ran : {started : State} {block : List ℕ} {rest : List ℕ → List ℕ} {end : End} (counted : Tally)
    → Reached started counted.read counted.handed block rest → ((end ≢ Err Undelivered) → rest [] ≡ []) → Ran started counted end
ran {started} {block} {rest} counted h w =
    record {
      bytes = h.earlier ++ block;
      text = h.text;
      rest = rest [];
      read = h.bytes;
      handed = h.count;
      prints = ap (λ (l : List ℕ). printed started l 0) (sym (append-nil (h.earlier ++ block))) ∙ h.prints [];
      whole = w;
    }

-- ---- a block, a bufferful at a time

-- between two bufferfuls the rest is what the plot is still to print
pub record Midway (started : State) (read handed : ℕ) (p : Plot) (block : List ℕ) : Type 0 where
  pub place : p.before + length block ≡ read
  pub reached : Reached started read handed block (λ later. due p block later)

pub midway-first : {started : State} {before read handed : ℕ} {m : Machine} {p : Plot} {block : List ℕ} → p ≡ begun_of m before
    → Begins started m.state before read handed block → Midway started read handed p block
midway-first {started} {before} {read} {handed} {m} {block} e h =
    subst (λ (p : Plot). Midway started read handed p block) (sym e)
    (record { place = sym h.reads; reached = reached-as h.reached (λ later. ap (printed m.state (block ++ later)) (sym (add-zero before))) })

module _ {started : State} {read handed : ℕ} {p : Plot} {block : List ℕ} (h : Midway started read handed p block) where
  module _ {q : Plot} {before after : List ℕ} (k : Plotted p q block before after) (z : p.length ≡ 0) where
    fills : Reached started read handed block (λ later. take q.length after ++ due q block later)
    fills = reached-as h.reached (λ later. k.prints later ∙ ap (λ (l : List ℕ). l ++ due q block later) (sym (puts_first z k.puts)))

    -- the text in the buffer may be handed over
    pub midway-next : Next started read handed block (take q.length after)
    midway-next = record { rest = λ later. due q block later; reached = fills }

    module _ {still next : ℕ} (s : still ≡ read) (e : next ≡ (handed + length (take q.length after)) % 2 ^ 64) where
      then : Reached started still next block (λ later. due q block later)
      then = reached_then (take q.length after) fills s e

      pub midway-again : {r : Plot} → r ≡ emptied_of q → Midway started still next r block
      midway-again f =
          subst (λ (r : Plot). Midway started still next r block) (sym f)
          (record { place = ap (λ (n : ℕ). n + length block) k.earlier ∙ h.place ∙ sym s; reached = then })

      pub leaves-part : Leaves started still next block (Err Undelivered)
      leaves-part = record { rest = λ later. due q block later; reached = then; all = tt; fault = refl }

  pub leaves_all : Ready p block → p.more ≡ false → Leaves started read handed block (Ok p.machine)
  leaves_all r f = record { rest = λ later. due p block later; reached = h.reached; all = (onward, sym (onward []) ∙ (r.ends f).1); fault = tt }
    where
      onward : (later : List ℕ) → due p block later ≡ printed p.machine.state later read
      onward later =
          ap (λ (n : ℕ). printed p.machine.state (drop n block ++ later) (p.before + n)) (r.ends f).0
          ∙ ap (λ (l : List ℕ). printed p.machine.state (l ++ later) (p.before + length block)) (drop-length block)
          ∙ ap (printed p.machine.state later) h.place

-- ---- an input, a block at a time

-- between two blocks the rest is what the machine m prints of later bytes, and with none nothing
pub record Stands (started m : State) (read handed : ℕ) : Type 0 where
  pub reached : Reached started read handed [] (λ later. printed m later read)
  pub nothing : printed m [] read ≡ []

pub stands-first : {started : State} {read handed : ℕ} → occupied started.work ≡ false → read ≡ 0 → handed ≡ 0 → Stands started started read handed
stands-first {started} {read} idle r o = record {
  reached = record { earlier = []; text = []; bytes = r; count = o; prints = λ later. ap (printed started later) (sym r) };
  nothing = idle-end started read idle;
}

pub stands_read : {started m : State} {before read handed still : ℕ} {block : List ℕ} → Stands started m before handed → read ≡ before + length block
    → still ≡ handed → Begins started m before read still block
stands_read {started} {block} h e s =
    let r = h.reached in
    let bytes = r.earlier ++ [] in
    record {
      reads = e;
      reached = record {
        earlier = bytes;
        text = r.text;
        bytes = e ∙ ap (λ (n : ℕ). n + length block) r.bytes ∙ sym (length-append bytes block);
        count = s ∙ r.count;
        prints = λ later. ap (λ (l : List ℕ). printed started l 0) (append_assoc bytes block later) ∙ r.prints (block ++ later);
      };
    }

-- a read that gave nothing
pub stands-still : {started m : State} {before read handed still n : ℕ} → Stands started m before handed → read ≡ before + n → still ≡ handed → n ≡ 0
    → Stands started m read still
stands-still {started} {m} {before} {still} h e s z =
    subst (λ (n : ℕ). Stands started m n still) (sym (e ∙ ap (λ (k : ℕ). before + k) z ∙ add-zero before)) (subst (Stands started m before) (sym s) h)

pub stands-next : {started : State} {read handed : ℕ} {block : List ℕ} {left : Result Machine Fault} (m : Machine) → Leaves started read handed block left
    → left ≡ Ok m → Stands started m.state read handed
stands-next {started} {read} {block} m h e =
    let r = h.reached in
    let all = IfOk-at_ok (λ (m : Machine). ((later : List ℕ) → h.rest later ≡ printed m.state later read) × (printed m.state [] read ≡ [])) e h.all in
    let same = append-nil (r.earlier ++ block) in
    record {
      reached = record {
        earlier = r.earlier ++ block;
        text = r.text;
        bytes = r.bytes ∙ ap length (sym same);
        count = r.count;
        prints = λ later.
            ap (λ (l : List ℕ). printed started (l ++ later) 0) same ∙ r.prints later ∙ ap (λ (l : List ℕ). r.text ++ l) (all.0 later);
      };
      nothing = all.1;
    }

-- ---- from fresh on

module _ (s : Started) (hard : Rect) (e : started_by s ≡ started_of hard) where
  number : s.number ≡ fresh_number hard
  unfolding started_of
  number = ap (λ (t : Numbered). t.number) e

  state : s.machine.state ≡ fresh_state hard
  unfolding started_of
  state = ap (λ (t : Numbered). t.state) e

  pub within-good : {counted : Tally} {end : End} → s.number ≡ 0 → Ran s.machine.state counted end → Within hard counted end
  within-good {counted} {end} z r = record { good = λ _. subst (λ (m : State). Ran m counted end) state r; bad = λ n. absurd (n (sym number ∙ z)) }

  pub within-bad : {counted : Tally} {end : End} → (s.number ≢ 0) → Unbegun Refused counted end → Within hard counted end
  within-bad n u = record { good = λ z. absurd (n (number ∙ z)); bad = λ _. u }
