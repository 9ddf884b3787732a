use Rattle.std.proofs.Common.{ℕ, List, ◌∙◌, refl, string_bytes}
use Rattle.std.proofs.lemmas.Result.{err_from_is_err_and}
use Rattle.must_tools.specs.Reading.{Shows, IsFaultOf}
use Rattle.must_tools.proofs.Reached.{shows_more, shows_all, left_next, left_shows, shows_fault, goes_on, not_failed, open_unfailed, ok_is_no_fault, handed_on}
use Rattle.must_tools.proofs.reading.push_calls.Goals as goal

pub loop-number-init : goal.loop-number-init
loop-number-init g c = record {
  shows = λ bytes b. b;
  kept = refl;
  any = c.requires.any;
  goes_on = c.requires.«open»;
  unfailed = open_unfailed c.args.reader.now.phase c.requires.«open»;
}

pub loop-number-preserved : goal.loop-number-preserved
loop-number-preserved g c = record {
  shows = λ bytes b. shows_more bytes (g.S.Source.left c.loop-number.src) (g.S.Source.left c.next.new.src) c.loop-number.reader c.next.new.self c.in_ok-next.next c.in-Some.call (string_bytes c.loop-number.text) (string_bytes c.push_call.new.text) c.loop-number.number
      c.in-Some.is c.in_ok-push_call-in-Some.ensures c.in_ok-next.ensures.given c.loop-number.invariant.goes_on (c.loop-number.invariant.shows bytes b);
  kept = c.in_ok-next.ensures.kept (λ e. ok_is_no_fault c.in_ok-next.next _ e) ∙ c.loop-number.invariant.kept;
  any = c.in_ok-next.ensures.whose ∙ c.loop-number.invariant.any;
  goes_on = goes_on c.next.new.self.phase c.in_ok-next.next c.in-Some.call c.in-Some.is c.in_ok-next.ensures.phase;
  unfailed = not_failed c.next.new.self.phase c.in_ok-next.next c.in_ok-next.ensures.phase;
}

pub returns-in-None-clause-whole : goal.returns-in-None-clause-whole
returns-in-None-clause-whole g c = λ bytes b.
    shows_all bytes (g.S.Source.left c.loop-number.src) (g.S.Source.left c.next.new.src) c.loop-number.reader c.next.new.self c.in_ok-next.next (string_bytes c.loop-number.text) c.loop-number.number
    c.in-None.is c.in_ok-next.ensures.given c.loop-number.invariant.goes_on (c.in_ok-next.ensures.whose ∙ c.loop-number.invariant.any) c.in_ok-next.ensures.phase (c.loop-number.invariant.shows bytes b)

pub returns-in-None-clause-tied : goal.returns-in-None-clause-tied
returns-in-None-clause-tied g c = λ bytes b.
    left_next bytes (g.S.Source.left c.loop-number.src) (g.S.Source.left c.next.new.src) c.loop-number.reader c.next.new.self _ (string_bytes c.loop-number.text) c.loop-number.number c.in_ok-next.ensures.given c.loop-number.invariant.goes_on (c.loop-number.invariant.shows bytes b)

pub returns-in_err-push_call-in-Some-clause-tied : goal.returns-in_err-push_call-in-Some-clause-tied
returns-in_err-push_call-in-Some-clause-tied g c = λ bytes b.
    left_next bytes (g.S.Source.left c.loop-number.src) (g.S.Source.left c.next.new.src) c.loop-number.reader c.next.new.self _ (string_bytes c.loop-number.text) c.loop-number.number c.in_ok-next.ensures.given c.loop-number.invariant.goes_on (c.loop-number.invariant.shows bytes b)

pub returns-in_err-next-clause-tied : goal.returns-in_err-next-clause-tied
returns-in_err-next-clause-tied g c = λ bytes b.
    left_next bytes (g.S.Source.left c.loop-number.src) (g.S.Source.left c.next.new.src) c.loop-number.reader c.next.new.self _ (string_bytes c.loop-number.text) c.loop-number.number c.in_err-next.ensures.given c.loop-number.invariant.goes_on (c.loop-number.invariant.shows bytes b)

pub returns-in_err-next-clause-refused : goal.returns-in_err-next-clause-refused
returns-in_err-next-clause-refused g c =
    let p = err_from_is_err_and c.from_residual.result c.from_residual.ensures.1 in
    handed_on c.from_residual.result p.0 c.in_err-next.field-0.0
    (λ fault. (bytes : List ℕ) → Shows bytes (g.S.Source.left c.args.src.now) c.args.reader.now (string_bytes c.args.text.now) c.args.first → IsFaultOf bytes (g.S.Source.left c.next.new.src) fault) p.1 p.2
    (λ bytes b. shows_fault bytes (g.S.Source.left c.loop-number.src) (g.S.Source.left c.next.new.src) c.loop-number.reader c.next.new.self (string_bytes c.loop-number.text) c.loop-number.number c.in_err-next.field-0.0
    c.in_err-next.ensures.given c.loop-number.invariant.goes_on (c.in_err-next.ensures.whose ∙ c.loop-number.invariant.any) c.in_err-next.ensures.phase (c.loop-number.invariant.shows bytes b))

pub returns-clause-tied : goal.returns-clause-tied
returns-clause-tied g c = λ bytes b. left_shows bytes (g.S.Source.left c.loop-number.src) c.loop-number.reader (string_bytes c.loop-number.text) c.loop-number.number (c.loop-number.invariant.shows bytes b)
