use Rattle.std.proofs.Common.{◌≡◌, ap, ◌∙◌, sym, subst, List}
use Rattle.rights_types.specs.Entries.{EntryValue}
use Rattle.sub_buffer.specs.Buffers.{BufferValue, with_held}
use Rattle.sub_buffer.specs.Places.{IsPlace}
use Rattle.sub_buffer.proofs.Orders.{inserted}
use Rattle.sub_buffer.proofs.buffer.SubBuffer.hold.Goals as goal

pub returns : goal.returns
returns g c =
    let i = c.self.inside in
    let e : EntryValue = c.args.entry in
    let b : BufferValue = record {
      me = i.me;
      origin = i.origin;
      last = i.last;
      told = i.told;
      closed = i.closed;
      held = i.held.items;
      asked = i.asked;
    } in
    let place : IsPlace e.prev b.held c.args.place
    = subst (λ (v : BufferValue). IsPlace e.prev v.held c.args.place) (sym c.self.view_is) c.requires.place in
    subst (λ (v : BufferValue). ◌≡◌ {A = BufferValue} (record b { held = c.insert.new.self.items }) (with_held v e))
    c.self.view_is
    (ap (λ (hs : List EntryValue). record b { held = hs }) (c.in-Ok.ensures.items
    ∙ inserted e.prev b.held c.args.place e place))
