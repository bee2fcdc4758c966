-- What a port receives, as plain data, and which messages it may receive.
use Rattle.std.specs.Prelude.{◌≡◌, ℕ, List, Some, Result}
use Rattle.rights_types.specs.Messages.{MessageValue}
use Rattle.rights_types.specs.Messages.MessageValue.{AQuery, AnAsk, ADenial}
use Rattle.rights_types.specs.declared.fault.OutOfMemory.{OutOfMemory}
use Rattle.sub_buffer.specs.Buffers.{BufferValue}
use Rattle.sub_buffer.specs.declared.buffer.State.{State}
use Rattle.inbound.specs.Inbounds.{sender, addressee}
use Rattle.link_intake.specs.declared.desk_message.DeskMessage.{DeskMessage}
use Rattle.link_intake.specs.declared.desk_message.DeskMessage.TheVariants.{Query, Ask, Deny}

abbrev pub message_of : DeskMessage → MessageValue
message_of (Query q) = AQuery q
message_of (Ask a) = AnAsk a
message_of (Deny d) = ADenial d

-- a message for the desk, and whether there was memory for it; a line for the peer; whether entries are missing, and
-- how many are held
pub data Heard : Type 0 where
  AMessage : DeskMessage → Result (Unit {0}) OutOfMemory → Heard
  ALine : List ℕ → Heard
  AState : State → ℕ → Heard

-- the origin sent the message to site me
pub record IsBetween (origin me : ℕ) (m : DeskMessage) : Type 0 where
  pub from : sender (message_of m) ≡ origin
  pub to : addressee (message_of m) ≡ Some me

-- the port accepts every message that the origin of this buffer may send to its site
abbrev pub AcceptsPeer : (DeskMessage → Type 0) → BufferValue → Type 0
AcceptsPeer accepts buffer = (m : DeskMessage) → IsBetween buffer.origin buffer.me m → accepts m
