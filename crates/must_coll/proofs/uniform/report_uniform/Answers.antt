use Rattle.std.proofs.Common.{◌≡◌, ℕ, length, Some, None, sym, ap, ◌∙◌}
use Rattle.std.specs.Prelude.{find}
use Rattle.std.specs.Option.{option_copied}
use Rattle.must_coll.specs.declared.item.WaveItem.{WaveItem}
use Rattle.must_coll.specs.declared.exchange.Exchange.TheVariants.{Alltoall}
use Rattle.must_coll.specs.Given.{GivenFrom}
use Rattle.must_coll.specs.ListLaws.{found}
use Rattle.must_coll.specs.Amounts.{against, first_against}
use Rattle.must_coll.specs.Uniform.{is_known, is_unlike, either_row}
use Rattle.must_coll.proofs.NoCall.{adds_nothing, none_from}
use Rattle.must_coll.proofs.PutWave.{adds_alike, on_ok}
use Rattle.must_coll.proofs.Same.{given_same, one_row, two_row, no_known_row}
use Rattle.must_coll.proofs.uniform.report_uniform.Goals as goal

pub returns-in-None : goal.returns-in-None
returns-in-None c =
    let calls = c.args.calls.now in
    let n = length calls in
    let row = λ (i : ℕ) (x : WaveItem). first_against Alltoall n i x 0 calls in
    let none : find is_known calls ≡ None = sym c.first_known.ensures ∙ ap option_copied c.in-None.is in
    adds_nothing c.args.out.now (GivenFrom row 0 calls) (none_from row (λ i x. no_known_row n i x calls none) 0 calls)

pub returns-in-None-first_other : goal.returns-in-None-first_other
returns-in-None-first_other c =
    let calls = c.args.calls.now in
    let n = length calls in
    let first = c.in-Some.first.now in
    let row = λ (i : ℕ) (x : WaveItem). first_against Alltoall n i x 0 calls in
    let one = against Alltoall n 0 (Some first) in
    let e : find is_known calls ≡ Some first = sym c.first_known.ensures ∙ ap option_copied c.in-Some.is in
    let m : find (is_unlike first) calls ≡ None = sym c.first_other.ensures ∙ ap option_copied c.in-None-first_other.is in
    let same = λ (i : ℕ) (x : WaveItem). one_row n i x c.none_where_equal.ensures calls first e (found is_known calls first e).1 m in
    on_ok c.report_against.result c.report_against.ensures
    (adds_alike c.args.out.now c.report_against.new.out (GivenFrom one 0 calls) (GivenFrom row 0 calls) (given_same one row (λ i x. sym (same i x)) 0 calls) (given_same row one same 0 calls))

pub returns-in-Some-first_other : goal.returns-in-Some-first_other
returns-in-Some-first_other c =
    let calls = c.args.calls.now in
    let n = length calls in
    let first = c.in-Some.first.now in
    let second = c.in-Some-first_other.second.now in
    let row = λ (i : ℕ) (x : WaveItem). first_against Alltoall n i x 0 calls in
    let either = λ (i : ℕ) (x : WaveItem). either_row n first second x in
    let e : find is_known calls ≡ Some first = sym c.first_known.ensures ∙ ap option_copied c.in-Some.is in
    let m : find (is_unlike first) calls ≡ Some second = sym c.first_other.ensures ∙ ap option_copied c.in-Some-first_other.is in
    let same = λ (i : ℕ) (x : WaveItem). two_row n i x c.none_where_equal.ensures calls first second e (found is_known calls first e).1 m (found (is_unlike first) calls second m).1 in
    on_ok c.report_either.result c.report_either.ensures
    (adds_alike c.args.out.now c.report_either.new.out (GivenFrom either 0 calls) (GivenFrom row 0 calls) (given_same either row (λ i x. sym (same i x)) 0 calls) (given_same row either same 0 calls))
