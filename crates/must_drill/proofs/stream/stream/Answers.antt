use Rattle.std.proofs.Common.{ℕ, List, ◌++◌, ap, ◌∙◌}
use Rattle.must_format.specs.Stream.{header_text}
use Rattle.must_drill.specs.Streams.{header_of}
use Rattle.must_drill.proofs.Ranges.{whole_stream}
use Rattle.must_drill.proofs.stream.stream.Goals as goal

pub returns : goal.returns
returns c =
    let a = c.args in
    whole_stream a.ranks a.rounds a.number a.rank c.put_header.new.out.items c.put_opening.new.out.items c.put_rounds.new.out.items c.put_closing.new.out.items c.put_end.new.out.items
    (c.in_ok-put_header.ensures ∙ ap (λ (xs : List ℕ). xs ++ header_text (header_of a.ranks a.rank)) c.new-out.ensures.items) c.in_ok-put_opening.ensures c.in_ok-put_rounds.ensures c.in_ok-put_closing.ensures c.in_ok-put_end.ensures
