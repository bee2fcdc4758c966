use Rattle.std.proofs.Common.{◌≡◌, [], ◌∷◌, ◌++◌, length, arith, inl, inr, refl, length-append}
use Rattle.std.proofs.KnownBytes.{Consumes-trans}
use Rattle.rights_types.specs.declared.limits.TheConstants.{MAX_LINE}
use Rattle.peer_links.proofs.HelloLaws.{open_more, line_ends, push_byte, byte_read}
use Rattle.peer_links.proofs.link.hello.read_first.Goals as goal

pub returns-then-byte-eq-LINE_END : goal.returns-then-byte-eq-LINE_END
returns-then-byte-eq-LINE_END g c =
    let inv = c.bytes.invariant in
    let b = c.in-Some.byte in
    let one = byte_read _ _ c.in_ok-byte.field-0 b c.in-Some.is c.in_ok-byte.ensures.some in
    let fed = push_byte c.bytes.cutter c.push.new.self inv.0 b c.push.result inv.4 inv.3 c.push.ensures.count
    (c.push.ensures.fed inv.0 [] inv.4) in
    record {
      read = (
        inv.0 ++ b ∷ [],
        Consumes-trans _ _ _ inv.0 (b ∷ []) inv.1 one,
        omega (arith, inv.2, c.bytes-test.true, length-append inv.0 (b ∷ [])),
        (line_ends inv.0 b inv.3 c.if-byte-eq-LINE_END.true, fed),
        λ e. absurd cc,
      );
    }

pub bytes-preserved : goal.bytes-preserved
bytes-preserved g c =
    let inv = c.bytes.invariant in
    let b = c.in-Some.byte in
    let one = byte_read _ _ c.in_ok-byte.field-0 b c.in-Some.is c.in_ok-byte.ensures.some in
    let fed = push_byte c.bytes.cutter c.push.new.self inv.0 b c.push.result inv.4 inv.3 c.push.ensures.count
    (c.push.ensures.fed inv.0 [] inv.4) in (
      inv.0 ++ b ∷ [],
      Consumes-trans _ _ _ inv.0 (b ∷ []) inv.1 one,
      omega (arith, inv.2, length-append inv.0 (b ∷ [])),
      open_more inv.0 b inv.3 c.if-byte-eq-LINE_END.false,
      fed,
    )

pub returns : goal.returns
returns g c =
    let inv = c.bytes.invariant in
    let all : length inv.0 ≡ MAX_LINE = omega (arith, inv.2, c.bytes-test.false, c.bytes.auto.counter-end) in
    record { read = (inv.0, inv.1, omega (arith, all), (inv.3, inl refl), λ _. inr (inl all)) }
