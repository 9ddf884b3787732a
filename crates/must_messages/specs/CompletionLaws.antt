-- What a call completes are the requests of its completions, so what it completes has a status.
use Rattle.std.proofs.Common.{◌≡◌, ℕ, suc, ℤ, pos, negsuc, List, [], ◌∷◌, ◌++◌, length, Option, Some, None, refl, ap}
use Rattle.std.specs.Prelude.{map, flat_map, option_map, option_to_list, slice_get}
use Rattle.std.specs.List.{cons_option}
use Rattle.must_call.specs.declared.status.Status3.{Status3}
use Rattle.must_call.specs.declared.items.Completion.{Completion}
use Rattle.must_call.specs.declared.finish.Finish.{Finish}
use Rattle.must_call.specs.declared.finish.Finish.TheVariants.{Wait, Waitall, Waitany, Waitsome, Test, Testall, Testany, Testsome, RequestFree, Cancel}
use Rattle.must_call.specs.declared.body.Body.TheVariants as body
use Rattle.must_call.specs.Bodies.{given_of}
use Rattle.must_rules.specs.Making.{requests_of, completed_of, picked, indexed}
use Rattle.must_rules.specs.Fates.{Completed, completed, each_from, at_index, at_choice, completed_among}

-- there is one status for each request, as a record has it
abbrev pub HasStatuses : Finish → Type 0
HasStatuses (Waitall requests (Some statuses)) = length requests ≡ length statuses
HasStatuses (Testall requests (Some (Some statuses))) = length requests ≡ length statuses
HasStatuses _ = Unit {0}

abbrev pub request_in : Completed → ℕ
request_in c = c.request

same_length : (m n : ℕ) → suc m ≡ suc n → m ≡ n
same_length m n e = cc

each_requests : (index : ℕ) (requests : List ℕ) (statuses : List Status3) → length requests ≡ length statuses → map request_in (each_from index requests statuses) ≡ requests
each_requests index [] [] e = refl
each_requests index [] (status ∷ statuses) e = refl
each_requests index (request ∷ requests) [] e = absurd (let no : suc (length requests) ≡ 0 = e in cc)
each_requests index (request ∷ requests) (status ∷ statuses) e =
    ap (λ (qs : List ℕ). request ∷ qs) (each_requests (suc index) requests statuses (same_length (length requests) (length statuses) e))

one_request : (index : ℕ) (status : Status3) (o : Option ℕ) → map request_in (option_to_list (option_map (completed index status) o)) ≡ option_to_list o
one_request index status None = refl
one_request index status (Some request) = refl

choice_request : (requests : List ℕ) (status : Status3) (index : ℤ) → map request_in (at_choice requests status index) ≡ option_to_list (indexed requests index)
choice_request requests status (pos index) = one_request index status (slice_get requests index)
choice_request requests status (negsuc index) = refl

picked_requests : (requests : List ℕ) (completions : List Completion) → map request_in (flat_map (λ c. at_index requests c.status c.index) completions) ≡ picked requests completions
picked_requests requests [] = refl
picked_requests requests (c ∷ completions) = at (slice_get requests c.index) (picked_requests requests completions)
  where
    at : (o : Option ℕ) → map request_in (flat_map (λ (d : Completion). at_index requests d.status d.index) completions) ≡ picked requests completions
        → map request_in (option_to_list (option_map (completed c.index c.status) o) ++ flat_map (λ (d : Completion). at_index requests d.status d.index) completions) ≡ cons_option o (picked requests completions)
    at None e = e
    at (Some request) e = ap (λ (qs : List ℕ). request ∷ qs) e

-- the requests of what a completion recorded are those that it completes
pub completions_complete : (f : Finish) → HasStatuses f → map request_in (completed_among (given_of (body.Finish f)) (requests_of (body.Finish f))) ≡ completed_of (body.Finish f)
completions_complete (Wait request None) has = refl
completions_complete (Wait request (Some status)) has = refl
completions_complete (Waitall requests None) has = refl
completions_complete (Waitall requests (Some statuses)) has = each_requests 0 requests statuses has
completions_complete (Waitany requests None) has = refl
completions_complete (Waitany requests (Some choice)) has = choice_request requests choice.status choice.index
completions_complete (Waitsome requests None) has = refl
completions_complete (Waitsome requests (Some None)) has = refl
completions_complete (Waitsome requests (Some (Some completions))) has = picked_requests requests completions
completions_complete (Test request None) has = refl
completions_complete (Test request (Some None)) has = refl
completions_complete (Test request (Some (Some status))) has = refl
completions_complete (Testall requests None) has = refl
completions_complete (Testall requests (Some None)) has = refl
completions_complete (Testall requests (Some (Some statuses))) has = each_requests 0 requests statuses has
completions_complete (Testany requests None) has = refl
completions_complete (Testany requests (Some None)) has = refl
completions_complete (Testany requests (Some (Some choice))) has = choice_request requests choice.status choice.index
completions_complete (Testsome requests None) has = refl
completions_complete (Testsome requests (Some None)) has = refl
completions_complete (Testsome requests (Some (Some completions))) has = picked_requests requests completions
completions_complete (RequestFree request) has = refl
completions_complete (Cancel request) has = refl
