use Rattle.std.proofs.Common.{◌≡◌, Some, sym, subst}
use Rattle.must_codec.specs.Inside.{phase_of, header_in}
use Rattle.must_codec.specs.Reader.{ReaderState, StandsBefore}
use Rattle.must_codec.proofs.Standing.{stands_before, gave_call, gave_end, gave_err}
use Rattle.must_codec.proofs.stream.StreamReader.proceed.Goals as goal

pub returns-in-Ok-Some-clause-given : goal.returns-in-Ok-Some-clause-given
returns-in-Ok-Some-clause-given g c = λ h taken rest is stands.
    let inside = c.self.inside in
    let r : ReaderState = record { expect = inside.expect; unread = inside.window; header = header_in inside.state; at = inside.last_at; phase = phase_of inside.state } in
    let same : r ≡ c.args.self.now = c.self.view_is in
    let before : StandsBefore c.args.place r taken h = subst (λ (x : ReaderState). StandsBefore c.args.place x taken h) (sym same) (stands_before c.args.place c.args.self.now taken h c.requires.phase stands) in
    let header : r.header ≡ Some c.args.header = subst (λ (x : ReaderState). x.header ≡ Some c.args.header) (sym same) c.requires.header in
    gave_call c.args.place c.next_call.new.place r taken rest h c.args.header c.next_call.new.window _ c.in-Ok-Some.call header before (rw c.in-Ok-Some.field-0-is at (c.in-Ok-Some.ensures.step h rest is before.place))

pub returns-in-Ok-None-clause-given : goal.returns-in-Ok-None-clause-given
returns-in-Ok-None-clause-given g c = λ h taken rest is stands.
    let inside = c.self.inside in
    let r : ReaderState = record { expect = inside.expect; unread = inside.window; header = header_in inside.state; at = inside.last_at; phase = phase_of inside.state } in
    let same : r ≡ c.args.self.now = c.self.view_is in
    let before : StandsBefore c.args.place r taken h = subst (λ (x : ReaderState). StandsBefore c.args.place x taken h) (sym same) (stands_before c.args.place c.args.self.now taken h c.requires.phase stands) in
    let header : r.header ≡ Some c.args.header = subst (λ (x : ReaderState). x.header ≡ Some c.args.header) (sym same) c.requires.header in
    gave_end c.args.place c.next_call.new.place r taken rest h c.args.header c.next_call.new.window inside.last_at _ header before (rw c.in-Ok-None.field-0-is at (c.in-Ok-None.ensures.step h rest is before.place))

pub returns-in-Err-clause-given : goal.returns-in-Err-clause-given
returns-in-Err-clause-given g c = λ h taken rest is stands.
    let inside = c.self.inside in
    let r : ReaderState = record { expect = inside.expect; unread = inside.window; header = header_in inside.state; at = inside.last_at; phase = phase_of inside.state } in
    let same : r ≡ c.args.self.now = c.self.view_is in
    let before : StandsBefore c.args.place r taken h = subst (λ (x : ReaderState). StandsBefore c.args.place x taken h) (sym same) (stands_before c.args.place c.args.self.now taken h c.requires.phase stands) in
    let header : r.header ≡ Some c.args.header = subst (λ (x : ReaderState). x.header ≡ Some c.args.header) (sym same) c.requires.header in
    gave_err c.args.place c.next_call.new.place r taken rest h c.args.header c.next_call.new.window inside.last_at _ c.in-Err.fault header before (c.in-Err.ensures.step h rest is before.place)
