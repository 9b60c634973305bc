-- "the latest 1, 2, 3, 6 or 7 that take gave, 0 if none since fresh, IN or OE" (document 02, CR 5): what OE tells, over every list of calls from fresh. The claim speaks of the numbers
-- that the takes of the list gave and of the instructions that they carried out, and of nothing that the machine remembers.
-- Why it holds: of each take it is known what becomes of the number that is remembered (WhatTakeDoes.antt), and no other call touches it.
use Rattle.std.specs.Prelude.{◌≡◌, refl, Bool, true, false, cond, ◌&&◌, ◌||◌, List, [], ◌∷◌, ◌++◌, ℕ, ◌<◌, eqb, leb, pos, length}
use Rattle.std.proofs.Common.{sym, ap, ◌∙◌, subst, true≢false, arith, eqb-true}
use Rattle.std.proofs.lemmas.Bool.{eqb-false}
use Rattle.exact.specs.Whole.{◌≡?◌}
use Rattle.clip.specs.declared.Rect.{Rect}
use Rattle.reader.specs.declared.Numbers.{Numbers}
use Rattle.reader.specs.declared.Event.{Event}
use Rattle.reader.specs.declared.Event.TheVariants.{Nothing, Named, Pair, Ended, Refused}
use Rattle.reader.specs.Step.{step_of}
use Rattle.mnemonics.specs.Table as code
use Rattle.hpgl.specs.declared.Polygon.{Polygon}
use Rattle.hpgl.specs.declared.Core.{Core}
use Rattle.hpgl.specs.declared.State.{State}
use Rattle.hpgl.proofs.Cases.{pick}
use Rattle.hpgl.specs.Replies.{reply_text, remembered}
use Rattle.hpgl.specs.Rules.{fresh_core, fresh_carriage}
use Rattle.hpgl.specs.Machine.{fresh_state, waiting, replied, replying, take_state, take_number, draw_state, fetch_state}
use Rattle.hpgl.specs.Made as made
use Rattle.hpgl.specs.Made.{Made}
use Rattle.hpgl.specs.Condition3 as call
use Rattle.hpgl.specs.Condition3.{Call, state_after}
use Rattle.hpgl.proofs.PinsReply.{Told, take-oe}
use Rattle.hpgl.proofs.ValidKept.{made-usable}
use Rattle.hpgl.proofs.Pins.{TakeNumber, none, one, two, three, six, seven, twenty, take-number}
use Rattle.hpgl.specs.Instruction.{Instruction, IN, DF, EP, IP, SC, IW, RO, SP, PM, CI, EA, ER, AA, AR, OA, OP, OW, OH, OE, PU, PD, PA, PR}
use Rattle.hpgl.specs.Effects.{Happens, nothing, name, pair, end, refused, asked, at_name, at_end, changed_by, remembers}
use Rattle.hpgl.proofs.WhatTakeDoes.{Free, Does, take-does}

-- ---- the statement

-- "1, 2, 3, 6 or 7"
pub data Telling : ℕ → Type 0 where
  unknown : Telling 1
  counted : Telling 2
  range : Telling 3
  far : Telling 6
  full : Telling 7

-- an event that ends IN or OE
unfoldable pub forgets : Event → Bool
forgets Nothing = false
forgets (Named op) = false
forgets (Pair n) = false
forgets (Ended op n) = eqb op code.IN || eqb op code.OE
forgets (Refused k) = false

-- the byte carries out IN or OE
pub record Clears (m : State) (b : ℕ) : Type 0 where
  pub number : take_number m b ≡ 0
  pub event : forgets (step_of m.reader b).event ≡ true

-- calls of which no take gives one of the five, and none carries out IN or OE
pub data Quiet : State → List Call → Type 0 where
  done : {m : State} → Quiet m []
  take : {m : State} {b : ℕ} {h : b < 256} {cs : List Call} → (Telling (take_number m b) → ⊥) → (Clears m b → ⊥) → Quiet (take_state m b) cs → Quiet m (call.take b h ∷ cs)
  draw : {m : State} {cs : List Call} → Quiet (draw_state m) cs → Quiet m (call.draw ∷ cs)
  fetch : {m : State} {room : ℕ} {cs : List Call} → Quiet (fetch_state m room) cs → Quiet m (call.fetch room ∷ cs)

-- the machine after a list of calls
unfoldable pub after : State → List Call → State
after m [] = m
after m (c ∷ cs) = after (state_after m c) cs

-- the latest number of the five among the calls, with no IN or OE since: by the take that gave it; 0 where one was carried out since; k where neither was
pub data Latest (m : State) (cs : List Call) (k : ℕ) : ℕ → Type 0 where
  never : Quiet m cs → Latest m cs k k
  given : (xs : List Call) (b : ℕ) (h : b < 256) (ys : List Call) → cs ≡ xs ++ (call.take b h ∷ ys) → Telling (take_number (after m xs) b) →
      Quiet (take_state (after m xs) b) ys → Latest m cs k (take_number (after m xs) b)
  cleared : (xs : List Call) (b : ℕ) (h : b < 256) (ys : List Call) → cs ≡ xs ++ (call.take b h ∷ ys) → Clears (after m xs) b → Quiet (take_state (after m xs) b) ys → Latest m cs k 0

-- ---- what a take does to the number that is remembered

abbrev recalls : Core → ℕ
recalls c = c.carriage.memory.refusal

recalls-at_name : (op : ℕ) (c : Core) → recalls (at_name op c) ≡ recalls c
recalls-at_name op c =
    let P : Core → Type 0 = λ d. recalls d ≡ recalls c in
    pick P (eqb op code.PU) refl (pick P (eqb op code.PD) refl (pick P (eqb op code.PA) refl (pick P (eqb op code.PR) refl refl)))

at-end : {op : ℕ} (i : Instruction op) (c : Core) (n : Numbers) (g : Polygon) → recalls (at_end i c n g) ≡ cond (forgets (Ended op n)) 0 (recalls c)
unfolding forgets
at-end IN c n g = refl
at-end DF c n g = refl
at-end EP c n g = refl
at-end IP c n g = refl
at-end SC c n g = refl
at-end IW c n g = refl
at-end RO c n g = refl
at-end SP c n g = refl
at-end PM c n g = pick (λ (d : Core). recalls d ≡ recalls c) (asked n ≡? pos 0) refl (pick (λ (d : Core). recalls d ≡ recalls c) (asked n ≡? pos 1) refl refl)
at-end CI c n g = refl
at-end EA c n g = refl
at-end ER c n g = refl
at-end AA c n g = refl
at-end AR c n g = refl
at-end OA c n g = refl
at-end OP c n g = refl
at-end OW c n g = refl
at-end OH c n g = refl
at-end OE c n g = refl
at-end PU c n g = refl
at-end PD c n g = refl
at-end PA c n g = refl
at-end PR c n g = refl

-- carried out
carried : {e : Event} (k : Happens e) (c : Core) (g : Polygon) → recalls (changed_by k c 0 g) ≡ cond (forgets e) 0 (recalls c)
unfolding forgets
carried nothing c g = refl
carried (name {op} i) c g = recalls-at_name op c
carried (pair n) c g = pick (λ (d : Core). recalls d ≡ recalls c) c.carriage.polygon.mode refl refl
carried (end i n) c g = at-end i c n g
carried (refused r) c g = refl

-- not carried out: with 20
untouched : {e : Event} (k : Happens e) (c : Core) (g : Polygon) → recalls (changed_by k c 20 g) ≡ recalls c
untouched nothing c g = refl
untouched (name i) c g = refl
untouched (pair n) c g = refl
untouched (end {op} i n) c g = pick (λ (d : Core). recalls d ≡ recalls c) (eqb op code.PM && eqb 20 7 && (asked n ≡? pos 2)) refl refl
untouched (refused r) c g = refl

data Step (m : State) (b : ℕ) : Type 0 where
  gives : Telling (take_number m b) → recalls (take_state m b).core ≡ take_number m b → Step m b
  clears : Clears m b → recalls (take_state m b).core ≡ 0 → Step m b
  keeps : (Telling (take_number m b) → ⊥) → (Clears m b → ⊥) → recalls (take_state m b).core ≡ recalls m.core → Step m b

one_of : {k : ℕ} → Telling k → remembered k ≡ true
unfolding remembered
one_of unknown = refl
one_of counted = refl
one_of range = refl
one_of far = refl
one_of full = refl

not-zero : Telling 0 → ⊥
unfolding remembered
not-zero t = true≢false (sym (one_of t))

not-twenty : Telling 20 → ⊥
unfolding remembered
not-twenty t = true≢false (sym (one_of t))

module _ (m : State) (b : ℕ) (d : Does m b) where
  tells : (k : ℕ) → take_number m b ≡ k → Telling k → Free m → (remembers k (changed_by d.event m.core k (take_state m b).core.carriage.polygon)).carriage.memory.refusal ≡ k → Step m b
  tells k e t f r =
      gives (subst Telling (sym e) t)
      (ap recalls (d.core f) ∙ ap (λ (j : ℕ). recalls (remembers j (changed_by d.event m.core j (take_state m b).core.carriage.polygon))) e ∙ r ∙ sym e)

  stays : take_number m b ≡ 20 → recalls (take_state m b).core ≡ recalls m.core → Step m b
  stays e r = keeps (λ t. not-twenty (subst Telling e t)) (λ c. let z : ◌≡◌ {A = ℕ} 20 0 = sym e ∙ c.number in omega (arith, z)) r

  by_number : (k : ℕ) → TakeNumber k → take_number m b ≡ k → Free m → Step m b
  by_number k one e f = tells 1 e unknown f refl
  by_number k two e f = tells 2 e counted f refl
  by_number k three e f = tells 3 e range f refl
  by_number k six e f = tells 6 e far f refl
  by_number k seven e f = tells 7 e full f refl
  by_number k twenty e f =
      stays e (ap recalls (d.core f) ∙ ap (λ (j : ℕ). recalls (remembers j (changed_by d.event m.core j (take_state m b).core.carriage.polygon))) e ∙ untouched d.event m.core _)
  by_number k none e f = by (forgets (step_of m.reader b).event) refl
    where
      after-it : recalls (take_state m b).core ≡ cond (forgets (step_of m.reader b).event) 0 (recalls m.core)
      after-it =
          ap recalls (d.core f) ∙ ap (λ (j : ℕ). recalls (remembers j (changed_by d.event m.core j (take_state m b).core.carriage.polygon))) e
          ∙ carried d.event m.core _

      by : (t : Bool) → forgets (step_of m.reader b).event ≡ t → Step m b
      by true h = clears (record { number = e; event = h }) (after-it ∙ ap (λ (x : Bool). cond x 0 (recalls m.core)) h)
      by false h = keeps (λ t. not-zero (subst Telling e t)) (λ c. true≢false (sym c.event ∙ h)) (after-it ∙ ap (λ (x : Bool). cond x 0 (recalls m.core)) h)

  step : Step m b
  step = go (eqb (waiting m.work) 0) (eqb (replied m.work).count 0) refl refl
    where
      busy : (Free m → ⊥) → Step m b
      busy h = let k = d.busy h in stays k.0 (ap (λ (x : State). recalls x.core) k.1)

      go : (s t : Bool) → eqb (waiting m.work) 0 ≡ s → eqb (replied m.work).count 0 ≡ t → Step m b
      go true true p q = by_number _ (take-number m b) refl (record { segment = eqb-true (waiting m.work) 0 p; reply = eqb-true (replied m.work).count 0 q })
      go true false p q = busy (λ f. eqb-false (replied m.work).count 0 q f.reply)
      go false t p q = busy (λ f. eqb-false (waiting m.work) 0 p f.segment)

drawn : (m : State) → recalls (draw_state m).core ≡ recalls m.core
unfolding draw_state
drawn m = refl

fetched : (m : State) (room : ℕ) → recalls (fetch_state m room).core ≡ recalls m.core
unfolding fetch_state
fetched m room =
    let P : State → Type 0 = λ x. recalls x.core ≡ recalls m.core in
    pick P (replying m.work) (pick P (leb (length (reply_text (replied m.work))) room) refl refl) refl

-- ---- the whole list

-- a take before the others: j is what is remembered after it
taken : (m : State) (b : ℕ) (l : b < 256) (cs : List Call) (j k : ℕ) → Step m b → recalls (take_state m b).core ≡ j → Latest (take_state m b) cs j k → Latest m (call.take b l ∷ cs) (recalls m.core) k
unfolding after state_after
taken m b l cs j k s e (given xs c h ys is t q) = given (call.take b l ∷ xs) c h ys (ap (λ (zs : List Call). call.take b l ∷ zs) is) t q
taken m b l cs j k s e (cleared xs c h ys is t q) = cleared (call.take b l ∷ xs) c h ys (ap (λ (zs : List Call). call.take b l ∷ zs) is) t q
taken m b l cs j k (gives t r) e (never q) = subst (Latest m (call.take b l ∷ cs) (recalls m.core)) (sym r ∙ e) (given [] b l cs refl t q)
taken m b l cs j k (clears c r) e (never q) = subst (Latest m (call.take b l ∷ cs) (recalls m.core)) (sym r ∙ e) (cleared [] b l cs refl c q)
taken m b l cs j k (keeps n c r) e (never q) = subst (Latest m (call.take b l ∷ cs) (recalls m.core)) (sym r ∙ e) (never (take n c q))

-- another call
passed : (m : State) (c : Call) (cs : List Call) (j k : ℕ) → (Quiet (state_after m c) cs → Quiet m (c ∷ cs)) → recalls m.core ≡ j → Latest (state_after m c) cs j k → Latest m (c ∷ cs) (recalls m.core) k
unfolding after
passed m c cs j k w e (given xs b h ys is t q) = given (c ∷ xs) b h ys (ap (λ (zs : List Call). c ∷ zs) is) t q
passed m c cs j k w e (cleared xs b h ys is t q) = cleared (c ∷ xs) b h ys (ap (λ (zs : List Call). c ∷ zs) is) t q
passed m c cs j k w e (never q) = subst (Latest m (c ∷ cs) (recalls m.core)) e (never (w q))

-- what is remembered after a list of calls is the latest of the five; before them it was j
latest : (m : State) → Made m → (cs : List Call) → Latest m cs (recalls m.core) (recalls (after m cs).core)
unfolding after state_after
latest m h [] = never done
latest m h (call.take b l ∷ cs) = taken m b l cs _ _ (step m b (take-does m (made-usable h) b)) refl (latest (take_state m b) (made.take h b l) cs)
latest m h (call.draw ∷ cs) = passed m call.draw cs _ _ draw (sym (drawn m)) (latest (draw_state m) (made.draw h) cs)
latest m h (call.fetch room ∷ cs) = passed m (call.fetch room) cs _ _ fetch (sym (fetched m room)) (latest (fetch_state m room) (made.fetch h room) cs)

-- THE THEOREM: where OE is carried out after a list of calls from fresh, the number that it tells is the latest of 1, 2, 3, 6, 7 that a take of the list gave, 0 if none
-- since fresh, IN or OE
pub record OeTells (r : Rect) (calls : List Call) (b : ℕ) : Type 0 where
  pub number : ℕ
  pub latest : Latest (fresh_state r) calls 0 number
  pub told : Told (after (fresh_state r) calls) b (record { count = 1; first = pos number; second = pos 0; third = pos 0; fourth = pos 0 })

pub refusal-told : (r : Rect) (calls : List Call) (b : ℕ) (n : Numbers) → let m = after (fresh_state r) calls in
    Free m → (step_of m.reader b).event ≡ Ended code.OE n → OeTells r calls b
unfolding fresh_state fresh_core fresh_carriage
refusal-told r calls b n f is =
    let m = after (fresh_state r) calls in
    record { number = recalls m.core; latest = latest (fresh_state r) (made.fresh r) calls; told = take-oe m b f n is }
