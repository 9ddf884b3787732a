use Rattle.std.proofs.Common.{◌≡◌, ℕ, List, [], Some, rules, ap, refl, ◌∙◌, string_bytes}
use Rattle.std.proofs.lemmas.Result.{err_from_is_err_and}
use Rattle.must_tools.specs.Reading.{IsFaultOf}
use Rattle.must_tools.proofs.Reached.{begun, dumped, left_behind, left_unread, stood_fault, fresh_stood, fresh_open, handed_on}
use Rattle.must_tools.proofs.reading.stream_text.Goals as goal

pub returns-in_err-next-clause-refused : goal.returns-in_err-next-clause-refused
returns-in_err-next-clause-refused g c =
    let p = err_from_is_err_and c.from_residual-in_err-next.result c.from_residual-in_err-next.ensures.1 in
    handed_on c.from_residual-in_err-next.result p.0 c.in_err-next.field-0.0
    (λ fault. (bytes : List ℕ) → g.S.Source.left c.args.src.now ≡ Some bytes → IsFaultOf bytes (g.S.Source.left c.next.new.src) fault) p.1 p.2
    (λ bytes e. stood_fault bytes (g.S.Source.left c.args.src.now) (g.S.Source.left c.next.new.src) c.in_ok-reader.reader c.next.new.self [] c.in_err-next.field-0.0
    c.in_err-next.ensures.given (fresh_open c.in_ok-reader.reader c.in_ok-reader.ensures) (c.in_err-next.ensures.whose ∙ ap (λ r. r.expect) c.in_ok-reader.ensures) c.in_err-next.ensures.phase
    (fresh_stood bytes (g.S.Source.left c.args.src.now) c.in_ok-reader.reader e c.in_ok-reader.ensures))

pub returns-in_err-next-clause-tied : goal.returns-in_err-next-clause-tied
returns-in_err-next-clause-tied g c = λ bytes e.
    left_behind bytes (g.S.Source.left c.args.src.now) (g.S.Source.left c.next.new.src) c.in_ok-reader.reader c.next.new.self [] _
    c.in_err-next.ensures.given (fresh_open c.in_ok-reader.reader c.in_ok-reader.ensures) (fresh_stood bytes (g.S.Source.left c.args.src.now) c.in_ok-reader.reader e c.in_ok-reader.ensures)

pub returns-in_err-push_first-clause-tied : goal.returns-in_err-push_first-clause-tied
returns-in_err-push_first-clause-tied g c = λ bytes e.
    left_behind bytes (g.S.Source.left c.args.src.now) (g.S.Source.left c.next.new.src) c.in_ok-reader.reader c.next.new.self [] _
    c.in_ok-next.ensures.given (fresh_open c.in_ok-reader.reader c.in_ok-reader.ensures) (fresh_stood bytes (g.S.Source.left c.args.src.now) c.in_ok-reader.reader e c.in_ok-reader.ensures)

pub returns-in_err-calls-clause-refused : goal.returns-in_err-calls-clause-refused
returns-in_err-calls-clause-refused g c =
    let p = err_from_is_err_and c.from_residual-in_err-calls.result c.from_residual-in_err-calls.ensures.1 in
    handed_on c.from_residual-in_err-calls.result p.0 c.in_err-calls.field-0.0
    (λ fault. (bytes : List ℕ) → g.S.Source.left c.args.src.now ≡ Some bytes → IsFaultOf bytes (g.S.Source.left c.push_all.new.src) fault) p.1 p.2
    (λ bytes e. c.in_err-calls.ensures.refused bytes
    (begun bytes (g.S.Source.left c.args.src.now) (g.S.Source.left c.next.new.src) c.in_ok-reader.reader c.next.new.self c.in_ok-next.next [] (string_bytes c.push_first.new.text)
    e c.in_ok-reader.ensures c.in_ok-next.ensures.given c.in_ok-next.ensures.phase refl (search rules)))

pub returns-in_err-calls-clause-tied : goal.returns-in_err-calls-clause-tied
returns-in_err-calls-clause-tied g c = λ bytes e. c.in_err-calls.ensures.tied bytes
    (begun bytes (g.S.Source.left c.args.src.now) (g.S.Source.left c.next.new.src) c.in_ok-reader.reader c.next.new.self c.in_ok-next.next [] (string_bytes c.push_first.new.text)
    e c.in_ok-reader.ensures c.in_ok-next.ensures.given c.in_ok-next.ensures.phase refl (search rules))

pub returns-in_err-push_end-clause-tied : goal.returns-in_err-push_end-clause-tied
returns-in_err-push_end-clause-tied g c = λ bytes e. c.in_ok-calls.ensures.tied bytes
    (begun bytes (g.S.Source.left c.args.src.now) (g.S.Source.left c.next.new.src) c.in_ok-reader.reader c.next.new.self c.in_ok-next.next [] (string_bytes c.push_first.new.text)
    e c.in_ok-reader.ensures c.in_ok-next.ensures.given c.in_ok-next.ensures.phase refl (search rules))

pub returns-clause-tied : goal.returns-clause-tied
returns-clause-tied g c = λ bytes e. c.in_ok-calls.ensures.tied bytes
    (begun bytes (g.S.Source.left c.args.src.now) (g.S.Source.left c.next.new.src) c.in_ok-reader.reader c.next.new.self c.in_ok-next.next [] (string_bytes c.push_first.new.text)
    e c.in_ok-reader.ensures c.in_ok-next.ensures.given c.in_ok-next.ensures.phase refl (search rules))

pub returns-clause-whole : goal.returns-clause-whole
returns-clause-whole g c = λ bytes e. dumped bytes (g.S.Source.left c.push_all.new.src) (string_bytes c.push_all.new.text) (string_bytes c.push_end.new.text) c.in_ok-calls.calls
    (c.in_ok-calls.ensures.whole bytes
    (begun bytes (g.S.Source.left c.args.src.now) (g.S.Source.left c.next.new.src) c.in_ok-reader.reader c.next.new.self c.in_ok-next.next [] (string_bytes c.push_first.new.text)
    e c.in_ok-reader.ensures c.in_ok-next.ensures.given c.in_ok-next.ensures.phase refl (search rules))) c.in_ok-push_end.ensures
