-- That a machine may be used is a fact with one proof, so that a machine can hold it beside its state: two machines with one state are one.
use Rattle.std.specs.Prelude.{◌≡◌, refl, true, List, [], ◌∷◌, ℕ, ◌+◌, ◌<◌, ◌≤◌, ℤ, length}
use mathlib.Core.HLevel.{Unit-prop}
use mathlib.Core.Bool.{Bool-set}
use Rattle.std.proofs.Props.{props}
use Rattle.exact.specs.Fit.{Bd}
use Rattle.clip.specs.declared.Point.{Point}
use Rattle.clip.specs.Reach.{reach, SmallPoint}
use Rattle.mnemonics.specs.Table.{rows}
use Rattle.numerals.specs.declared.number.Number.{Number}
use Rattle.reader.specs.declared.Mode.{Mode}
use Rattle.reader.specs.declared.Mode.TheVariants.{Idle, First, Parameters, InNumber, PassOver, Label}
use Rattle.reader.specs.declared.Numbers.{Numbers}
use Rattle.reader.specs.declared.Reader.{Reader}
use Rattle.reader.specs.Sizes.{SmallMode, Small, SmallNumber, Readable}
use Rattle.hpgl.specs.declared.Circle.{Circle}
use Rattle.hpgl.specs.declared.Core.{Core}
use Rattle.hpgl.specs.declared.Edge.{Edge}
use Rattle.hpgl.specs.declared.Polygon.{Polygon}
use Rattle.hpgl.specs.declared.Position.{Position}
use Rattle.hpgl.specs.declared.Reply.{Reply}
use Rattle.hpgl.specs.declared.Settings.{Settings}
use Rattle.hpgl.specs.declared.State.{State}
use Rattle.hpgl.specs.declared.Work.{Work}
use Rattle.hpgl.specs.declared.Work.TheVariants as work
use Rattle.hpgl.specs.Numbers.{most_edges, most_pen}
use Rattle.hpgl.specs.Replies.{remembered}
use Rattle.hpgl.specs.Valid.{Usable, Valid, Knows, Every, none, more, Recalled, clear, given, ReplyCount, one, three, four, SmallEdge, ValidSettings, Placed, ValidPolygon, ValidCore, ValidReply, ValidWork, ValidCircle, Inked, most_chords}

mode-once : (m : Mode) → IsProp (SmallMode m)
mode-once Idle = Unit-prop
mode-once (First a) = Prim.hlevel props
mode-once Parameters = Unit-prop
mode-once InNumber = Unit-prop
mode-once PassOver = Unit-prop
mode-once Label = Unit-prop

op-once : (r : Reader) → IsProp (r.op < rows)
op-once r = Prim.hlevel props

small-once : (n : Numbers) → IsProp (Small n)
small-once n = Prim.hlevel props

number-once : (n : Number) → IsProp (SmallNumber n)
number-once n = Prim.hlevel props

readable-once : (r : Reader) → IsProp (Readable r)
readable-once r a b = λ i. record {
  mode = mode-once r.mode a.mode b.mode i;
  op = op-once r a.op b.op i;
  numbers = small-once r.numbers a.numbers b.numbers i;
  number = number-once r.number a.number b.number i;
}

every-once : {A : Type 0} {P : A → Type 0} → ((x : A) → IsProp (P x)) → (xs : List A) → IsProp (Every P xs)
every-once p [] none none = refl
every-once {P = P} p (x ∷ xs) (more a rest) (more b other) = λ i. more (p x a b i) (every-once {P = P} p xs rest other i)

never : remembered 0 ≡ true → ⊥
unfolding remembered
never e = cc

recalled-once : (k : ℕ) → IsProp (Recalled k)
recalled-once k clear clear = refl
recalled-once k clear (given f) = absurd (never f)
recalled-once k (given e) clear = absurd (never e)
recalled-once k (given e) (given f) = λ i. given (Bool-set _ _ e f i)

count-once : (k : ℕ) → IsProp (ReplyCount k)
count-once k one one = refl
count-once k three three = refl
count-once k four four = refl

edge-once : (e : Edge) → IsProp (SmallEdge e)
edge-once e = Prim.hlevel props

settings-once : (s : Settings) → IsProp (ValidSettings s)
settings-once s = Prim.hlevel props

placed-once : (s : Settings) (p : Position) → IsProp (Placed s p)
placed-once s p = Prim.hlevel props

polygon-once : (s : Settings) (g : Polygon) → IsProp (ValidPolygon s g)
polygon-once s g = Prim.hlevel props

pen-once : (k : ℕ) → IsProp (k ≤ most_pen)
pen-once k = Prim.hlevel props

core-once : (c : Core) → IsProp (ValidCore c)
core-once c a b = λ i. record {
  settings = settings-once c.settings a.settings b.settings i;
  position = placed-once c.settings c.carriage.position a.position b.position i;
  pen = pen-once c.carriage.pen.number a.pen b.pen i;
  polygon = polygon-once c.settings c.carriage.polygon a.polygon b.polygon i;
  memory = recalled-once c.carriage.memory.refusal a.memory b.memory i;
}

knows-once : (c : Core) (r : Reader) → IsProp (Knows c r)
unfolding Knows
knows-once c r = Prim.hlevel props

points-once : (a b : Point) → IsProp (SmallPoint a × SmallPoint b)
points-once a b = Prim.hlevel props

circle-once : (o : Circle) (i n : ℕ) → IsProp (ValidCircle o i n × (i + n ≤ most_chords))
circle-once o i n = Prim.hlevel props

edges-once : (i n : ℕ) → IsProp (i + n ≤ most_edges)
edges-once i n = Prim.hlevel props

reach-once : (z : ℤ) → IsProp (Bd z reach)
reach-once z = Prim.hlevel props

reply-once : (r : Reply) → IsProp (ValidReply r)
reply-once r a b = λ i. record {
  count = count-once r.count a.count b.count i;
  first = reach-once r.first a.first b.first i;
  second = reach-once r.second a.second b.second i;
  third = reach-once r.third a.third b.third i;
  fourth = reach-once r.fourth a.fourth b.fourth i;
}

work-once : (w : Work) → IsProp (ValidWork w)
work-once work.Nothing = Unit-prop
work-once (work.Line a b) = points-once a b
work-once (work.Chords o i n) = circle-once o i n
work-once (work.Edges i n) = edges-once i n
work-once (work.Answer r) = reply-once r

long-once : (k : ℕ) → IsProp (k ≡ most_edges)
long-once k = Prim.hlevel props

inked-once : (c : Core) (w : Work) → IsProp (Inked c w)
inked-once c w = Prim.hlevel props

valid-once : (m : State) → IsProp (Valid m)
valid-once m a b = λ i. record {
  reader = readable-once m.reader a.reader b.reader i;
  known = knows-once m.core m.reader a.known b.known i;
  core = core-once m.core a.core b.core i;
  edges = every-once edge-once m.store.edges a.edges b.edges i;
  length = long-once (length m.store.edges) a.length b.length i;
  work = work-once m.work a.work b.work i;
}

pub usable-once : (m : State) → IsProp (Usable m)
usable-once m a b = λ i. record { valid = valid-once m a.valid b.valid i; inked = inked-once m.core m.work a.inked b.inked i }
