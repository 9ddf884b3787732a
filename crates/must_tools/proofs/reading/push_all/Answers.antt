use Rattle.std.proofs.Common.{ℕ, List, string_bytes}
use Rattle.std.proofs.lemmas.Result.{IfOk-weaker, IfErr-weaker}
use Rattle.must_tools.specs.Reading.{Shows, Begins, ShowsAll, IsFaultOf}
use Rattle.must_tools.proofs.Reached.{shows_first, shows_none, left_begins, goes_on}
use Rattle.must_tools.proofs.reading.push_all.Goals as goal

pub returns-in-None-clause-whole : goal.returns-in-None-clause-whole
returns-in-None-clause-whole g c = λ bytes b. shows_none bytes (g.S.Source.left c.args.src.now) c.args.reader.now c.args.first_call (string_bytes c.args.text.now) c.in-None.is c.requires.any c.requires.leaves b

pub returns-in-None-clause-tied : goal.returns-in-None-clause-tied
returns-in-None-clause-tied g c = λ bytes b. left_begins bytes (g.S.Source.left c.args.src.now) c.args.reader.now c.args.first_call (string_bytes c.args.text.now) b

pub returns-in_err-push_call-in-Some-clause-tied : goal.returns-in_err-push_call-in-Some-clause-tied
returns-in_err-push_call-in-Some-clause-tied g c = λ bytes b. left_begins bytes (g.S.Source.left c.args.src.now) c.args.reader.now c.args.first_call (string_bytes c.args.text.now) b

pub push_calls-requires-clause-open : goal.push_calls-requires-clause-open
push_calls-requires-clause-open g c = goes_on c.args.reader.now.phase c.args.first_call c.in-Some.call c.in-Some.is c.requires.leaves

pub returns-in_ok-push_call-in-Some-clause-whole : goal.returns-in_ok-push_call-in-Some-clause-whole
returns-in_ok-push_call-in-Some-clause-whole g c = IfOk-weaker c.push_calls.result
    (λ count. (bytes : List ℕ) → Shows bytes (g.S.Source.left c.args.src.now) c.args.reader.now (string_bytes c.push_call.new.text) 1 → ShowsAll bytes (g.S.Source.left c.push_calls.new.src) (string_bytes c.push_calls.new.text) count)
    (λ count. (bytes : List ℕ) → Begins bytes (g.S.Source.left c.args.src.now) c.args.reader.now c.args.first_call (string_bytes c.args.text.now) → ShowsAll bytes (g.S.Source.left c.push_calls.new.src) (string_bytes c.push_calls.new.text) count)
    (λ count whole bytes b. whole bytes (shows_first bytes (g.S.Source.left c.args.src.now) c.args.reader.now c.args.first_call c.in-Some.call (string_bytes c.args.text.now) (string_bytes c.push_call.new.text) c.in-Some.is c.in_ok-push_call-in-Some.ensures b)) c.push_calls.ensures.whole

pub returns-in_ok-push_call-in-Some-clause-tied : goal.returns-in_ok-push_call-in-Some-clause-tied
returns-in_ok-push_call-in-Some-clause-tied g c = λ bytes b. c.push_calls.ensures.tied bytes
    (shows_first bytes (g.S.Source.left c.args.src.now) c.args.reader.now c.args.first_call c.in-Some.call (string_bytes c.args.text.now) (string_bytes c.push_call.new.text) c.in-Some.is c.in_ok-push_call-in-Some.ensures b)

pub returns-in_ok-push_call-in-Some-clause-refused : goal.returns-in_ok-push_call-in-Some-clause-refused
returns-in_ok-push_call-in-Some-clause-refused g c = IfErr-weaker c.push_calls.result
    (λ fault. (bytes : List ℕ) → Shows bytes (g.S.Source.left c.args.src.now) c.args.reader.now (string_bytes c.push_call.new.text) 1 → IsFaultOf bytes (g.S.Source.left c.push_calls.new.src) fault)
    (λ fault. (bytes : List ℕ) → Begins bytes (g.S.Source.left c.args.src.now) c.args.reader.now c.args.first_call (string_bytes c.args.text.now) → IsFaultOf bytes (g.S.Source.left c.push_calls.new.src) fault)
    (λ fault refused bytes b. refused bytes (shows_first bytes (g.S.Source.left c.args.src.now) c.args.reader.now c.args.first_call c.in-Some.call (string_bytes c.args.text.now) (string_bytes c.push_call.new.text) c.in-Some.is c.in_ok-push_call-in-Some.ensures b)) c.push_calls.ensures.refused
