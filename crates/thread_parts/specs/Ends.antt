-- The two ends of a lane, as plain data.
use denote.RawPtr.{Ptr}
use Rattle.std.specs.Prelude.{ℕ, Bool, List}
use Rattle.rtrb.specs.Shared.{Names}
use Rattle.rtrb.specs.Ring.{producer_capacity, consumer_capacity}
use Rattle.rtrb.specs.declared.producer.Producer.{Producer}
use Rattle.rtrb.specs.declared.consumer.Consumer.{Consumer}
use Rattle.thread_parts.specs.declared.item.Item.{Item}
use Rattle.thread_parts.specs.declared.rule.InOrder.{InOrder}

module _ (A : Type 0) where
  -- which lane it is, by its memory, and the greatest number of items that it holds
  pub record LaneId : Type 0 where
    pub words : Ptr
    pub slots : Ptr
    pub names : Names
    pub heap : A
    pub capacity : ℕ

  -- the inlet: its lane, what was put, and whether LaneClosed was returned
  pub record InletValue : Type 0 where
    pub lane : LaneId
    pub put : List (Item A)
    pub dead : Bool

  -- the outlet: its lane, what was taken, and whether LaneClosed was returned
  pub record OutletValue : Type 0 where
    pub lane : LaneId
    pub taken : List (Item A)
    pub dead : Bool

module _ {A : Type 0} where
  abbrev pub inlet_lane : Producer (Item A) A InOrder → LaneId A
  inlet_lane p = record {
    words = p.end.words;
    slots = p.end.slots;
    names = p.end.names;
    heap = p.end.heap;
    capacity = producer_capacity p;
  }

  abbrev pub outlet_lane : Consumer (Item A) A InOrder → LaneId A
  outlet_lane c = record {
    words = c.end.words;
    slots = c.end.slots;
    names = c.end.names;
    heap = c.end.heap;
    capacity = consumer_capacity c;
  }
