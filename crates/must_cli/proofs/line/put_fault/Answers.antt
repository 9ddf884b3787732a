use Rattle.must_cli.proofs.line.put_fault.Goals as goal

pub returns-in-Malformed : goal.returns-in-Malformed
returns-in-Malformed g c = rw (c.in-Malformed.is, ← c.name.ensures, ← c.place_text-line.ensures, ← c.as_str.ensures.value) c.put_line.ensures
