use Rattle.c_calls.proofs.candidate_calls.candidate_at.Goals as goal
use Rattle.c_calls.specs.TransportCalls.{lent_candidates}
use Rattle.std.proofs.Common.{◌≡◌, ◌∙◌, ℕ, List, Bor, Option, Some, map, option_map, ap, sym}
use Rattle.std.proofs.lemmas.Option.{slice_get-map, slice_get_read}
use Rattle.std.specs.List.{slice_get}
use Rattle.str0m_values.specs.Candidate.{candidate_text}
use Rattle.str0m_values.specs.declared.candidate.Candidate.{Candidate}

-- the text of a candidate that may be lent
abbrev lent_text : Option (Bor Candidate) → Option (List ℕ)
lent_text found = option_map candidate_text (option_map (λ (candidate : Bor Candidate). candidate.now) found)

candidate_text_at : (candidates : List (Bor Candidate)) (i : ℕ)
    → slice_get (map candidate_text (lent_candidates candidates)) i ≡ lent_text (slice_get candidates i)
candidate_text_at candidates i =
    slice_get-map candidate_text (lent_candidates candidates) i
    ∙ ap (option_map candidate_text) (slice_get-map (λ (candidate : Bor Candidate). candidate.now) candidates i)

pub returns : goal.returns
returns c =
    let all : List (Bor Candidate) = c.in_ok-found.found.items in
    let one : Bor Candidate = c.swap_remove.result in
    let there : slice_get all c.args.index ≡ Some one =
    slice_get_read all c.len.result c.args.index one (c.len.ensures ∙ c.in_ok-found.found.ok.0) c.if-index-len.false
    c.swap_remove.ensures.value in
    let text : slice_get (map candidate_text (lent_candidates all)) c.args.index ≡ Some (candidate_text one.now) =
    candidate_text_at all c.args.index ∙ ap lent_text there in
    sym text ∙ ap (λ list. slice_get (map candidate_text list) c.args.index) c.in_ok-found.ensures
