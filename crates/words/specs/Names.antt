-- The kinds of instructions, by their names: the sixteen of document 01 and the seven of document 02 (c, d, m, p, q), and those of the manual and of HP-GL/2 that the machine does not have.
use Rattle.std.specs.Prelude.{Bool, true, false, cond, List, [], ◌∷◌, ◌++◌, ℕ, eqb}
use Prim.Native.Char.{code}
use Rattle.hpgl.specs.Trace.{bytes}

unfoldable pub same_name : ℕ → ℕ → ℕ → ℕ → Bool
same_name first second a b = cond (eqb first a) (eqb second b) false

-- in a list each name has its kind after it, and a blank; x is the kind of a name that is not there
unfoldable pub kind_in : List ℕ → ℕ → ℕ → ℕ
kind_in [] a b = code "x"
kind_in (p ∷ []) a b = code "x"
kind_in (p ∷ q ∷ []) a b = code "x"
kind_in (p ∷ q ∷ kind ∷ []) a b = code "x"
kind_in (p ∷ q ∷ kind ∷ blank ∷ rest) a b = cond (same_name p q a b) kind (kind_in rest a b)

-- its own: settings, what is painted by itself, moves (an arc among them, "each chord .. being a move": the pen goes on from its end), polygon mode, replies
abbrev pub own_kinds : List ℕ
own_kinds =
    bytes "DFc INc IPc IWc ROc SCc SPc "
    ++ bytes "CId EAd EPd ERd "
    ++ bytes "AAm ARm PAm PDm PRm PUm "
    ++ bytes "PMp "
    ++ bytes "OAq OEq OHq OPq OWq "

-- other arcs and curves, bytes of no name and of escape sequences, coded lines, fills and wedges, text, questions, settings of text, line types, speed and force, width of a pen;
-- and n: the page and the picture as a whole, which no line depends on (a file's beginning BP; the next page PG, NP; a size or a cut of paper PS, EC;
-- how ends and corners of lines look LA; whether white covers TR; the colour of a pen PC)
abbrev pub foreign_kinds : List ℕ
foreign_kinds =
    bytes "ATa BRa BZa RTa "
    ++ bytes "??b ^[h "
    ++ bytes "PEe "
    ++ bytes "ACf EWf FPf FTf RAf RFf RRf UFf WGf "
    ++ bytes "BLl CPl LBl PBl UCl "
    ++ bytes "DCo DPo IMo OCo ODo OFo OGo OIo OLo OOo OSo OTo "
    ++ bytes "ADs CAs CSs DIs DRs DTs DVs ESs LOs SAs SDs SIs SLs SRs SSs TDs "
    ++ bytes "LTt ULt "
    ++ bytes "BPn ECn LAn NPn PCn PGn PSn TRn "
    ++ bytes "APv ASv FSv VAv VNv VSv "
    ++ bytes "PTw PWw WUw "

unfoldable pub kind_of : ℕ → ℕ → ℕ
kind_of a b = kind_in (own_kinds ++ foreign_kinds) a b

-- the machine has it
unfoldable pub has_of : ℕ → Bool
has_of k = cond (eqb k (code "c")) true (cond (eqb k (code "d")) true (cond (eqb k (code "m")) true (cond (eqb k (code "p")) true (eqb k (code "q")))))

-- "not known in polygon mode: 1": for no other cause an instruction of its own is refused with 1
unfoldable pub refused_kind : ℕ → ℕ → ℕ → ℕ
refused_kind number a b = cond (eqb number 1) (cond (has_of (kind_of a b)) (code "k") (kind_of a b)) (kind_of a b)

-- what is painted is the same without it. Of line types that is true where LT has no numbers; those with numbers are counted apart (scanning/specs/Types.antt)
unfoldable pub harmless_of : ℕ → Bool
harmless_of k =
    cond (eqb k (code "h")) true (cond (eqb k (code "n")) true (cond (eqb k (code "o")) true (cond (eqb k (code "q")) true (cond (eqb k (code "s")) true (cond (eqb k (code "t")) true (cond (eqb k (code "v")) true (eqb k (code "w"))))))))
