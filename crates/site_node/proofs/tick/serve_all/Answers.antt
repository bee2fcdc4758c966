use Rattle.std.proofs.Common.{◌++◌, ◌∷◌, [], List, length, length-append, ap, subst, arith}
use Rattle.std.proofs.lemmas.Result.{err_from_is_err_and}
use Rattle.request_queue.specs.declared.request.Request.{Request}
use Rattle.site_node.specs.Ticking.{ServesNext, ServesNextIf}
use Rattle.site_node.proofs.Serving.{one_more, serves_all, fails}
use Rattle.site_node.proofs.tick.serve_all.Goals as goal

pub returns-in_err-serve_next-clause-err : goal.returns-in_err-serve_next-clause-err
returns-in_err-serve_next-clause-err g c =
    let p = err_from_is_err_and c.from_residual.result c.from_residual.ensures.1 in
    let so_far : List Request = c.requests.invariant.0 in
    rw (p.1, p.2) (
      so_far,
      fails _ _ so_far c.requests.kept c.requests.seat c.in_err-serve_next.field-0.0
          c.serve_next.new.kept c.serve_next.new.seat c.requests.invariant.1 c.in_err-serve_next.ensures.err,
    )

pub requests-preserved : goal.requests-preserved
requests-preserved g c =
    let so_far : List Request = c.requests.invariant.0 in
    let next : (r : Request) × ServesNext c.requests.kept c.requests.seat r c.serve_next.new.kept
    c.serve_next.new.seat =
    subst (λ b. ServesNextIf b c.requests.kept c.requests.seat c.serve_next.new.kept c.serve_next.new.seat)
    c.if-branch.true c.in_ok-serve_next.ensures.ok in (
      so_far ++ next.0 ∷ [],
      one_more _ _ so_far c.requests.kept c.requests.seat next.0 c.serve_next.new.kept c.serve_next.new.seat
          c.requests.invariant.1 next.1,
      omega (arith, c.requests.invariant.2, length-append so_far (next.0 ∷ [])),
      omega (arith, c.requests.invariant.3, ap length next.1.first),
    )

pub returns-clause-ok : goal.returns-clause-ok
returns-clause-ok g c =
    let so_far : List Request = c.requests.invariant.0 in
    let stopped = subst (λ b. ServesNextIf b c.requests.kept c.requests.seat c.serve_next.new.kept
    c.serve_next.new.seat) c.if-branch.false c.in_ok-serve_next.ensures.ok in (
      so_far,
      serves_all _ _ so_far c.requests.kept c.requests.seat c.serve_next.new.kept c.serve_next.new.seat
          c.requests.invariant.1 stopped,
      c.requests.invariant.2,
    )
