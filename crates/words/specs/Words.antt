-- The words for the numbers of document 01 ("Causes and numbers") and of document 02, and for instructions that they do not have.
use Rattle.std.specs.Prelude.{cond, List, ℕ, eqb}
use Prim.Native.Char.{code}
use Rattle.hpgl.specs.Trace.{bytes}

-- why a byte or a call is refused with a number
unfoldable pub cause_of : ℕ → List ℕ
cause_of n =
    cond (eqb n 1) (bytes "unknown byte, or an instruction that the machine does not have") (
    cond (eqb n 2) (bytes "wrong count of numbers") (
    cond (eqb n 3) (bytes "number or setting out of range") (
    cond (eqb n 6) (bytes "location more than 1,000,000 units away") (
    cond (eqb n 7) (bytes "polygon of more than 1024 bytes") (
    cond (eqb n 10) (bytes "bad hard limits") (
    cond (eqb n 11) (bytes "unknown pitch code") (
    cond (eqb n 12) (bytes "stroke out of the range of the drive") (
    cond (eqb n 20) (bytes "byte given while a segment or a reply waits") (
    cond (eqb n 21) (bytes "list of strokes full") (
    cond (eqb n 31) (bytes "buffer shorter than the reply") (bytes "not a number of the table")))))))))))

-- what to do about it
unfoldable pub advice_of : ℕ → List ℕ
advice_of n =
    cond (eqb n 1) (bytes "Leave it out, or draw it with the instructions that the machine has.") (
    cond (eqb n 2) (bytes "Look for a missing or an extra number before this place.") (
    cond (eqb n 3) (bytes "Keep to the range that the manual gives for this number.") (
    cond (eqb n 6) (bytes "Look at the scaling (IP, SC) and the relative moves (PR).") (
    cond (eqb n 7) (bytes "Divide the polygon into smaller ones.") (
    cond (eqb n 10) (bytes "Give left below right, bottom below top, each -32768 to 32767.") (
    cond (eqb n 11) (bytes "Give 0, 1, 2 or 3: a unit is 0.125, 0.25, 0.5 or 1 mm.") (
    cond (eqb n 12) (bytes "Keep the ends of the stroke within -32768 to 32767.") (
    cond (eqb n 20) (bytes "Draw until idle, or fetch the reply; then give the byte again.") (
    cond (eqb n 21) (bytes "Take the strokes out, then feed the bytes that are left.") (
    cond (eqb n 31) (bytes "Fetch again with a longer buffer: 37 bytes hold every reply.") (bytes "None.")))))))))))

-- what becomes of an instruction that the machine does not have, by its kind
unfoldable pub of_foreign : ℕ → List ℕ
of_foreign n =
    cond (eqb n (code "a")) (bytes "of curves only CI, AA, AR are known: the next line starts where it began") (
    cond (eqb n (code "b")) (bytes "bytes that name no instruction, as of escape sequences, are passed over") (
    cond (eqb n (code "e")) (bytes "coded lines are not known: letters of the code are read as instructions") (
    cond (eqb n (code "f")) (bytes "fills are not painted: paint the edges alone (EA, ER, EP, CI)") (
    cond (eqb n (code "h")) (bytes "escape sequences (ESC . ..) set up a plotter's line: no line is another") (
    cond (eqb n (code "l")) (bytes "text is not painted: turn letters into lines first") (
    cond (eqb n (code "n")) (bytes "pages, paper, colours and ends of lines: no line is another") (
    cond (eqb n (code "o")) (bytes "no reply is given to what a file asks") (
    cond (eqb n (code "s")) (bytes "settings of text do nothing: text is not painted") (
    cond (eqb n (code "t")) (bytes "LT alone changes nothing; with numbers its lines come out without gaps") (
    cond (eqb n (code "v")) (bytes "speed and force of the pen are the carriage's own") (
    cond (eqb n (code "w")) (bytes "the width of a line is that of the paint") (bytes "not an instruction of this machine: it is passed over"))))))))))))

-- what becomes of an instruction that is refused, by its kind; k is for one that is not known in polygon mode
unfoldable pub of_kind : ℕ → List ℕ
of_kind n =
    cond (eqb n (code "c")) (bytes "not carried out: the setting stays as it was") (
    cond (eqb n (code "d")) (bytes "not carried out: nothing of it is painted") (
    cond (eqb n (code "k")) (bytes "lost: it is not known between PM0 and PM2. End the polygon before it") (
    cond (eqb n (code "m")) (bytes "not carried out from there on: the next line starts where the pen was") (
    cond (eqb n (code "p")) (bytes "not carried out, or left open: the polygon is another than was meant") (
    cond (eqb n (code "q")) (bytes "not carried out: no reply is made of it") (of_foreign n))))))
