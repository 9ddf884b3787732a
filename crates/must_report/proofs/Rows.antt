-- The lines of CSV that a writer holds.
use Rattle.std.proofs.Common.{◌≡◌, ◌+◌, ◌<◌, ℕ, List, [], ◌∷◌, ◌++◌, Some, false, length, take, get_or, append_assoc, rules, refl, sym, ap, subst, ◌∙◌}
use Rattle.std.specs.Prelude.{codes}
use Rattle.std.specs.List.{flat_map}
use Rattle.std.specs.Fmt.{decimal, signed_decimal}
use Rattle.std.specs.Global.{Vec}
use Rattle.std.specs.Io.KnownBytes.{Appends}
use Rattle.csv.specs.Writing.{row_text, is_blank, fields_text, writer_setup, fields_written, has_written, text_written}
use Rattle.csv.specs.declared.writer.Writer.{Writer}
use Rattle.must_find.specs.declared.finding.Finding.{Finding}
use Rattle.must_find.specs.declared.severity.Severity.{Severity}
use Rattle.must_find.specs.Rules.{code_of}
use Rattle.must_find.specs.RuleSet.{severity_in}
use Rattle.must_find.specs.Report.{severity_text, shown}
use Rattle.must_report.specs.Csv.{header, see_rank, see_call, row_of}
use Rattle.must_report.specs.CsvWriter.{Holds, plain_writer}
use Rattle.must_report.proofs.Lines.{lines_more}

row_is : (a b c d e f g h : List ℕ) → row_text plain_writer (a ∷ b ∷ c ∷ d ∷ e ∷ f ∷ g ∷ h ∷ [])
    ≡ a ++ codes "," ++ b ++ codes "," ++ c ++ codes "," ++ d ++ codes "," ++ e ++ codes "," ++ f ++ codes "," ++ g ++ codes "," ++ h ++ codes "\n"
unfolding is_blank fields_text
row_is a b c d e f g h = search (rules, append_assoc)

-- the fields of a finding make its line
pub line_is : (severities : List Severity) (x : Finding) (a b c d e f g h : List ℕ)
    → a ≡ decimal x.rank → b ≡ decimal x.call → c ≡ decimal x.part → d ≡ severity_text (severity_in severities x.rule) → e ≡ code_of x.rule
    → f ≡ see_rank x.see → g ≡ see_call x.see → h ≡ signed_decimal x.value
    → row_text plain_writer (a ∷ b ∷ c ∷ d ∷ e ∷ f ∷ g ∷ h ∷ []) ≡ row_of severities x
unfolding row_of
line_is severities x a b c d e f g h rank call part severity code seen_rank seen_call value =
    row_is a b c d e f g h ∙ rw (rank, call, part, severity, code, seen_rank, seen_call, value) refl

-- a record that was written behind whole lines is a line more
pub one_more : (old new : Writer (Vec ℕ)) (before line : List ℕ) → Holds old before → writer_setup new ≡ writer_setup old → fields_written new ≡ 0 → has_written new ≡ false
    → Appends (text_written (λ (v : Vec ℕ). Some v.items) old) (text_written (λ (v : Vec ℕ). Some v.items) new) line → Holds new (before ++ line)
one_more old new before line holds setup fields clean more = record {
  setup = setup ∙ holds.setup;
  fields = fields;
  clean = clean;
  text = more ∙ ap (λ (w : List ℕ). w ++ line) holds.text;
}

-- one turn of the loop over the findings
pub rows_more : (out : Writer (Vec ℕ)) (severities : List Severity) (fs : List Finding) (i : ℕ) (d : Finding) → i < length fs
    → Holds out ((header ++ flat_map (row_of severities) (shown severities (take i fs))) ++ flat_map (row_of severities) (shown severities (get_or fs i d ∷ [])))
    → Holds out (header ++ flat_map (row_of severities) (shown severities (take (i + 1) fs)))
rows_more out severities fs i d within holds =
    subst (λ (w : List ℕ). Holds out w)
    (append_assoc header _ _ ∙ ap (λ (w : List ℕ). header ++ w) (sym (lines_more (row_of severities) severities fs i d within))) holds
