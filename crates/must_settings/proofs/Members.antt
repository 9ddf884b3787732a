-- The members of a table, taken one after the other.
use Rattle.std.proofs.Common.{◌≡◌, ℕ, Bool, true, false, ◌&&◌, List, [], ◌∷◌, ◌++◌, refl, string_bytes}
use Rattle.std.proofs.lemmas.Bool.{and_parts}
use Rattle.must_find.specs.declared.rule.Rule.{Rule}
use Rattle.must_find.specs.declared.severity.Severity.{Severity}
use Rattle.toml.specs.Data.{Data}
use Rattle.toml.specs.View.{view, members_view}
use Rattle.toml.proofs.Views.{Entry}
use Rattle.must_settings.specs.RulesFile.{all_members, given, severity_by}

no_more : (b : Bool) → (b && false) ≡ false
no_more true = refl
no_more false = refl

pub all_more : (may : List ℕ → Data → Bool) (done : List Entry) (e : Entry) → all_members may (members_view done) ≡ true → may (string_bytes e.0) (view e.1) ≡ true
    → all_members may (members_view (done ++ e ∷ [])) ≡ true
all_more may [] e all here = rw here refl
all_more may (x ∷ done) e all here =
    let parts = and_parts (may (string_bytes x.0) (view x.1)) (all_members may (members_view done)) all in
    rw (parts.0, all_more may done e parts.1 here) refl

pub all_stops : (may : List ℕ → Data → Bool) (done : List Entry) (e : Entry) (rest : List Entry) → may (string_bytes e.0) (view e.1) ≡ false
    → all_members may (members_view (done ++ e ∷ rest)) ≡ false
all_stops may [] e rest here = rw here refl
all_stops may (x ∷ done) e rest here = rw (all_stops may done e rest here) (no_more (may (string_bytes x.0) (view x.1)))

pub given_more : (r : Rule) (old : Severity) (done : List Entry) (e : Entry)
    → severity_by r old (members_view (done ++ e ∷ [])) ≡ given r (severity_by r old (members_view done)) (string_bytes e.0) (view e.1)
given_more r old [] e = refl
given_more r old (x ∷ done) e = given_more r (given r old (string_bytes x.0) (view x.1)) done e
