use Rattle.std.proofs.Common.{◌++◌}
use Rattle.must_codec.proofs.Standing.{gave_behind}
use Rattle.must_codec.proofs.stream.StreamReader.next.Goals as goal

pub returns-in_ok-header-in-Fresh-clause-given : goal.returns-in_ok-header-in-Fresh-clause-given
returns-in_ok-header-in-Fresh-clause-given g c = λ h taken rest _ is stands.
    let o = c.in_ok-header-in-Fresh.ensures.given h taken rest is stands in
    gave_behind c.open.new.self _ _ taken rest h c.proceed-in-Fresh.result o c.proceed-in-Fresh.new.self (c.proceed-in-Fresh.ensures.given h (taken ++ o.piece) o.others o.left_is o.stands)
