-- The value of a message, independent of where it is stored in memory.
use Rattle.rights_types.specs.Messages.{MessageValue}
use Rattle.rights_types.specs.Messages.MessageValue.{AnEntry, AQuery, AnAnswer, ABeat, AnAsk, ADenial, AHello}
use Rattle.rights_types.specs.declared.message.Message.{Message}
use Rattle.rights_types.specs.declared.message.Message.TheVariants.{Push, Query, Answer, Beat, Ask, Deny, Hello}

abbrev pub value_of : {A : Type 0} → Message A → MessageValue
value_of (Push e) = AnEntry e
value_of (Query q) = AQuery q
value_of (Answer a) = AnAnswer a
value_of (Beat b) = ABeat b
value_of (Ask a) = AnAsk a
value_of (Deny d) = ADenial d
value_of (Hello s) = AHello s
