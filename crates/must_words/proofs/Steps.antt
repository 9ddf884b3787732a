-- One option more.
use Rattle.std.proofs.Common.{◌≡◌, ℕ, suc, List, Some, None, refl}
use Rattle.must_words.specs.Command.{Options, Taken, option_at, check_of, check_words}

pub one_more : (n most : ℕ) (o : Options) (words : List (List ℕ)) (t : Taken) → n ≡ suc most → option_at o words ≡ Some t → check_words n o words ≡ check_words most t.options t.words
one_more n most o words t e is = rw (e, is) refl

pub no_more : (n most : ℕ) (o : Options) (words : List (List ℕ)) → n ≡ suc most → option_at o words ≡ None → check_words n o words ≡ check_of o words
no_more n most o words e is = rw (e, is) refl
