-- Where the files of a check stand in its words.
use Rattle.std.proofs.Common.{◌≡◌, ◌∙◌, ◌≤◌, ◌+◌, ◌-◌, ℕ, Bool, cond, true, false, zero, suc, refl, sym, ap, List, [], ◌∷◌, ◌++◌, Option, Some, None, option_map, subst, length, drop, arith}
use Rattle.std.specs.Prelude.{nat_lt, nat_le}
use Rattle.std.specs.List.{list_all}
use Rattle.std.proofs.lemmas.List.{append_assoc, drop_at, length-append}
use Rattle.std.proofs.lemmas.Bool.{leb-true, ltb-true}
use Rattle.clap.specs.Walk.{Text}
use Rattle.clap.proofs.WalkLemmas.{both}
use Rattle.must_format.specs.declared.limits.TheConstants.{MOST_RANKS}
use Rattle.must_words.specs.Command.{Check, Options, Taken, are_files, check_words, flag_at, is_file, option_at, or_files, or_value, taken, value_at, valued_at}
use Rattle.must_words.proofs.Canonical.{none_some, same_in}

-- the words end in these
pub record EndsIn (words : List Text) (behind : List Text) : Type 0 where
  pub front : List Text
  pub parts : words ≡ front ++ behind

value_front : (o : Options) (word : Text) (words : List Text) (t : Taken) → value_at o word words ≡ Some t → EndsIn (word ∷ words) t.words
value_front o word [] t e = absurd (none_some t e)
value_front o word (value ∷ words) t e = go (valued_at o word value) e
  where
    go : (v : Option Options) → option_map (taken words) v ≡ Some t → EndsIn (word ∷ value ∷ words) t.words
    go None e = absurd (none_some t e)
    go (Some p) e = record { front = word ∷ value ∷ []; parts = ap (λ (u : Taken). word ∷ value ∷ u.words) (same_in (taken words p) t e) }

option_front : (o : Options) (words : List Text) (t : Taken) → option_at o words ≡ Some t → EndsIn words t.words
option_front o [] t e = absurd (none_some t e)
option_front o (word ∷ words) t e = go (flag_at o word) e
  where
    go : (v : Option Options) → or_value v o word words ≡ Some t → EndsIn (word ∷ words) t.words
    go None e = value_front o word words t e
    go (Some p) e = record { front = word ∷ []; parts = ap (λ (u : Taken). word ∷ u.words) (same_in (taken words p) t e) }

-- the files of a check stand last, and are files
pub record HasFiles (words : List Text) (c : Check) : Type 0 where
  pub ends : EndsIn words c.files
  pub files : are_files c.files ≡ true

files_only : (o : Options) (words : List Text) (c : Check) (b : Bool) → are_files words ≡ b → cond b (Some (record { options = o; files = words })) None ≡ Some c → HasFiles words c
files_only o words c false is e = absurd (none_some c e)
files_only o words c true is e = subst (HasFiles words) (same_in _ c e) (record { ends = record { front = []; parts = refl }; files = is })

behind_more : (words more : List Text) (c : Check) → EndsIn words more → HasFiles more c → HasFiles words c
behind_more words more c front k = record {
  ends = record { front = front.front ++ k.ends.front; parts = front.parts ∙ ap (λ l. front.front ++ l) k.ends.parts ∙ sym (append_assoc front.front k.ends.front c.files) };
  files = k.files;
}

pub has_files : (most : ℕ) (o : Options) (words : List Text) (c : Check) → check_words most o words ≡ Some c → HasFiles words c
has_files zero o words c e = files_only o words c (are_files words) refl e
has_files (suc most) o words c e = go (λ t is. has_files most t.options t.words c is) (option_at o words) refl e
  where
    go : ((t : Taken) → check_words most t.options t.words ≡ Some c → HasFiles t.words c)
        → (t : Option Taken) → option_at o words ≡ t → or_files o words (option_map (λ t. check_words most t.options t.words) t) ≡ Some c → HasFiles words c
    go next None is e = files_only o words c (are_files words) refl e
    go next (Some t) is e = behind_more words t.words c (option_front o words t is) (next t e)

pub dropped : (words behind : List Text) → EndsIn words behind → drop (length words - length behind) words ≡ behind
dropped words behind k =
    let long : length words ≡ length k.front + length behind = ap length k.parts ∙ length-append k.front behind in
    let here : length words - length behind ≡ length k.front = omega (arith, long) in
    ap (drop (length words - length behind)) k.parts ∙ drop_at k.front behind (length words - length behind) (sym here)

pub counted : (words : List Text) → are_files words ≡ true → (1 ≤ length words) × (length words ≤ MOST_RANKS)
counted words e =
    let p = both (nat_lt 0 (length words)) _ e in
    let q = both (nat_le (length words) MOST_RANKS) (list_all is_file words) p.1 in
    let least = ltb-true 0 (length words) p.0 in
    (omega (arith, least), leb-true (length words) MOST_RANKS q.0)
