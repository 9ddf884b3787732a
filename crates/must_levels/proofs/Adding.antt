-- What nodes close with, put together.
use Rattle.std.proofs.Common.{◌≡◌, List, ◌++◌, Some, None, ap, ◌∙◌, inl, inr}
use Rattle.std.specs.Prelude.{◌⊎◌, ◌↔◌}
use Rattle.must_base.specs.Listing.{Has}
use Rattle.must_find.specs.declared.finding.Finding.{Finding}
use Rattle.must_entry.specs.declared.entry.Entry.{Entry}
use Rattle.must_node.specs.declared.closed.Closed.{Closed}
use Rattle.must_node.specs.declared.fact.Fact.{Fact}
use Rattle.must_node.specs.Closing.{Settles}
use Rattle.must_levels.specs.Telling.{Adds}

pub none_adds : (closed : Closed) (entries : List Entry) → Settles closed entries → Adds None entries (Some closed)
none_adds closed entries s = record {
  rows = λ f. ((λ h. inr ((s.rows f).0 h)), (λ h. elim h [ inl x ↦ absurd x | inr y ↦ (s.rows f).1 y ]));
  facts = s.facts;
}

pub some_adds : (below closed all : Closed) (entries : List Entry) → Settles closed entries → ((f : Finding) → Has all.findings f ↔ (Has below.findings f ⊎ Has closed.findings f)) → all.facts ≡ below.facts ++ closed.facts → Adds (Some below) entries (Some all)
some_adds below closed all entries s rows facts = record {
  rows = λ f. (
    (λ h. elim ((rows f).0 h) [ inl x ↦ inl x | inr y ↦ inr ((s.rows f).0 y) ]),
    (λ h. (rows f).1 (elim h [ inl x ↦ inl x | inr y ↦ inr ((s.rows f).1 y) ])),
  );
  facts = facts ∙ ap (λ (l : List Fact). below.facts ++ l) s.facts;
}
