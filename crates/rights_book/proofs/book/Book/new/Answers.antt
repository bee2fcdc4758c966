use Rattle.std.proofs.Common.{◌≡◌, refl, arith}
use Rattle.std.proofs.lemmas.List.{length-replicate}
use Rattle.rights_book.specs.Peers.{no_peer}
use Rattle.rights_book.proofs.BookLaws.{new_is_book}
use Rattle.rights_book.proofs.StandLaws.{new_stands}
use Rattle.rights_book.proofs.book.Book.new.Goals as goal

pub invariant_of-result : goal.invariant_of-result
invariant_of-result g c =
    let all : c.loop-site._site ≡ c.args.sites = omega arith in
    rw (c.loop-site.invariant, c.new-2.ensures, all)
    (new_is_book c.args.me c.args.sites c.requires.sites.0 c.requires.sites.1 c.number.ensures.range.0
    c.requires.me)

pub returns : goal.returns
returns g c =
    let all : c.loop-site._site ≡ c.args.sites = omega arith in
    record {
      made = rw (c.loop-site.invariant, c.new-2.ensures, all) refl;
      system = rw (c.loop-site.invariant, all) (refl, length-replicate c.args.sites no_peer);
      stands = rw (c.loop-site.invariant, c.new-2.ensures, all) (new_stands c.args.me c.args.sites);
    }
