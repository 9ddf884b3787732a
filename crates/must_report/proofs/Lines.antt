-- The lines of one more finding.
use Rattle.std.proofs.Common.{◌≡◌, ℕ, ◌+◌, ◌<◌, List, [], ◌∷◌, ◌++◌, length, take, get_or, sym, ap, ◌∙◌, arith, length-append}
use Rattle.std.specs.List.{flat_map}
use Rattle.std.proofs.lemmas.Grind.{flat_map-append}
use Rattle.std.proofs.lemmas.List.{take_more}
use Rattle.std.proofs.lemmas.List.Elements.{filter-append}
use Rattle.must_find.specs.declared.severity.Severity.{Severity}
use Rattle.must_find.specs.declared.finding.Finding.{Finding}
use Rattle.must_find.specs.RuleSet.{severity_in}
use Rattle.must_find.specs.Report.{line_of, is_on, shown}

pub shown_more : (rules : List Severity) (fs : List Finding) (i : ℕ) (d : Finding) → i < length fs → shown rules (take (i + 1) fs) ≡ shown rules (take i fs) ++ shown rules (get_or fs i d ∷ [])
shown_more rules fs i d within =
    ap (λ (xs : List Finding). shown rules xs) (take_more fs i d within)
    ∙ filter-append (λ f. is_on (severity_in rules f.rule)) (take i fs) (get_or fs i d ∷ [])

-- for a line of either kind
pub lines_more : (line : Finding → List ℕ) (rules : List Severity) (fs : List Finding) (i : ℕ) (d : Finding) → i < length fs
    → flat_map line (shown rules (take (i + 1) fs)) ≡ flat_map line (shown rules (take i fs)) ++ flat_map line (shown rules (get_or fs i d ∷ []))
lines_more line rules fs i d within =
    ap (λ (xs : List Finding). flat_map line xs) (shown_more rules fs i d within)
    ∙ flat_map-append line (shown rules (take i fs)) (shown rules (get_or fs i d ∷ []))

pub count_more : (rules : List Severity) (fs : List Finding) (i : ℕ) (d : Finding) → i < length fs
    → length (shown rules (take (i + 1) fs)) ≡ length (shown rules (take i fs)) + length (shown rules (get_or fs i d ∷ []))
count_more rules fs i d within = ap length (shown_more rules fs i d within) ∙ length-append (shown rules (take i fs)) (shown rules (get_or fs i d ∷ []))

-- one turn of the loop over the findings, where the item is that at an index
pub text_more : (rules : List Severity) (fs : List Finding) (i : ℕ) (d : Finding) (old new : List ℕ) → i < length fs
    → new ≡ old ++ flat_map (line_of rules) (shown rules (get_or fs i d ∷ [])) → old ≡ flat_map (line_of rules) (shown rules (take i fs))
    → new ≡ flat_map (line_of rules) (shown rules (take (i + 1) fs))
text_more rules fs i d old new within more so_far =
    more ∙ ap (λ (w : List ℕ). w ++ flat_map (line_of rules) (shown rules (get_or fs i d ∷ []))) so_far ∙ sym (lines_more (line_of rules) rules fs i d within)

pub total_more : (rules : List Severity) (fs : List Finding) (i : ℕ) (d : Finding) (old more : ℕ) → i < length fs
    → more ≡ length (shown rules (get_or fs i d ∷ [])) → old ≡ length (shown rules (take i fs)) → old + more ≡ length (shown rules (take (i + 1) fs))
total_more rules fs i d old more within is so_far = omega (arith, is, so_far, count_more rules fs i d within)
