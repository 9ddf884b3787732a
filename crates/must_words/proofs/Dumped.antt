-- `clap` takes the canonical words of a dump, and its matches tell them.
use Rattle.std.proofs.Common.{◌≡◌, true, refl, [], ◌∷◌, Some}
use Rattle.std.specs.Prelude.{codes}
use Rattle.clap.proofs.OnLiterals.{clap_on_literals}
use Rattle.clap.specs.Simple.{matches_of}
use Rattle.clap.specs.Takes.{takes}
use Rattle.clap.specs.Walk.{Text, first_of}
use Rattle.must_words.specs.Command.{is_file}
use Rattle.must_words.specs.Readers.{dump_app}
use Rattle.must_words.proofs.Walk.{Plain, plain_file}

module _ (first word : Text) (file : is_file word ≡ true) where
  plain : Plain word
  plain = plain_file word file

  pub dump_takes : takes dump_app (first ∷ word ∷ []) ≡ true
  unfolding clap_on_literals
  dump_takes = rw (plain.long, plain.short, plain.dashes) refl

  pub dump_tells : first_of (codes "file") (matches_of dump_app (first ∷ word ∷ [])) ≡ Some word
  unfolding clap_on_literals
  dump_tells = rw (plain.long, plain.short, plain.dashes) refl
