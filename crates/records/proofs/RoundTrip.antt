-- Reading the bytes of a command gives the command and the next place. Assumes nothing.
use Prim.Native.Nat.{ℕ, ◌+◌}
use mathlib.Core.Path.{◌≡◌, refl, sym, ◌∙◌, ap}
use mathlib.Core.List.{List, [], ◌∷◌, ◌++◌, append_assoc}
use mathlib.Core.Option.{some}
use native.Mathlib.Omega.{arith}
use lib.ListN.{length, get_or, length-append}
use lib.Seq.{get_or-append-add, get_or-append_seam}
use Rattle.little_endian.specs.Word.{word_at, bytes_of_word}
use Rattle.little_endian.proofs.Laws.{word_back}
use Rattle.records.specs.Record.{Fields, fields_at, is_good, if_good, or_refuse10, record_at}
use Rattle.records.specs.Told.{fields_of}
use Rattle.records.specs.Bytes.{bytes_of, WordsFit, RoundTrip}
use Rattle.records.specs.declared.Command.{Command}
use Rattle.records.specs.declared.Command.TheVariants.{Define, Change, Find, Remove, Settle}
use Rattle.records.proofs.Marks.{same_fields}
use Rattle.records.proofs.Places.{has_ten}

-- the fields that were written
fields_back : (f : Fields) → WordsFit f → (before after : List ℕ) → fields_at (before ++ (bytes_of f ++ after)) (length before) ≡ f
fields_back f fits before after =
    let mark = f.first ∷ f.second ∷ [] in
    let key = bytes_of_word f.key in
    let value = bytes_of_word f.value in
    let rest = bytes_of f ++ after in
    let first : get_or (before ++ rest) (length before) 0 ≡ f.first = get_or-append_seam before _ _ 0 in
    let second : get_or (before ++ rest) (length before + 1) 0 ≡ f.second = get_or-append-add before rest 1 0 in
    let k : word_at ((before ++ mark) ++ (key ++ (value ++ after))) (length before + 2) ≡ f.key =
    word_back (before ++ mark) (value ++ after) f.key (length before + 2) fits.key (sym (length-append before mark)) in
    let v : word_at ((before ++ (mark ++ key)) ++ (value ++ after)) (length before + 6) ≡ f.value =
    word_back (before ++ (mark ++ key)) after f.value (length before + 6) fits.value (sym (length-append before (mark ++ key))) in
    let k' : word_at (before ++ rest) (length before + 2) ≡ f.key = rw append_assoc at k in
    let v' : word_at (before ++ rest) (length before + 6) ≡ f.value = rw append_assoc at v in
    same_fields first second k' v'

-- every command's fields are good
means : (command : Command) → if_good (fields_of command) ≡ some (fields_of command)
unfolding is_good
means (Define key value) = refl
means (Change key value) = refl
means (Find key) = refl
means (Remove key) = refl
means (Settle n) = refl

pub round_trip : RoundTrip
unfolding record_at
round_trip command fits before after =
    let bytes = before ++ (bytes_of (fields_of command) ++ after) in
    let f : fields_at bytes (length before) ≡ fields_of command = fields_back (fields_of command) fits before after in
    let m : if_good (fields_at bytes (length before)) ≡ some (fields_of command) = ap if_good f ∙ means command in
    ap (λ o. or_refuse10 o (length before)) (sym m) ∙ has_ten bytes (length before) (simp length-append (omega arith))
