use Rattle.std.proofs.Common.{◌≡◌, ◌+◌, ◌++◌, ◌∷◌, [], ℕ, List, take, get_or, codes, sym, ap, ◌∙◌, append_assoc}
use Rattle.std.proofs.lemmas.List.{flat_map_more, take_more, get_or_read}
use Rattle.request_queue.specs.declared.request.Request.{Request}
use Rattle.site_node.specs.Texts.{request_text, more_requests}
use Rattle.site_node.proofs.queue.put_more.Goals as goal

pub loop-request-preserved : goal.loop-request-preserved
loop-request-preserved g c =
    let i = c.loop-request.request-index in
    let requests : List Request = c.args.requests.now in
    let item : Request = c.request-item.result in
    let each : Request → List ℕ = λ (r : Request). codes "," ++ request_text r in
    let start : List ℕ = c.args.replies.now.part in
    let is : item ≡ get_or requests i item
    = get_or_read requests i item c.loop-request-test.true c.request-item.is item in
    let more : take i requests ++ item ∷ [] ≡ take (i + 1) requests
    = ap (λ (r : Request). take i requests ++ r ∷ []) is ∙ sym (take_more requests i item c.loop-request-test.true) in
    record {
      part = c.in_ok-put_request.ensures.ok
          ∙ ap (λ (t : List ℕ). t ++ request_text item) c.in_ok-put.ensures.ok
          ∙ append_assoc c.loop-request.replies.part (codes ",") (request_text item)
          ∙ ap (λ (t : List ℕ). t ++ each item) c.loop-request.invariant.part
          ∙ flat_map_more each start (take i requests) item
          ∙ ap (λ (rs : List Request). start ++ more_requests rs) more;
      kept = c.put_request.ensures.kept ∙ c.put.ensures.kept ∙ c.loop-request.invariant.kept;
    }
