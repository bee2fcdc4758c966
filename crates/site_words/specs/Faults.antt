-- Why a site stops, by what ended the conversation with its client.
use Rattle.line_streams.specs.declared.fault.ConversationError.{ConversationError}
use Rattle.line_streams.specs.declared.fault.ConversationError.TheVariants.{ReadFailed as NotRead}
use Rattle.line_streams.specs.declared.fault.ConversationError.TheVariants.{WriteFailed as NotWritten}
use Rattle.line_streams.specs.declared.fault.ConversationError.TheVariants.{OutOfMemory as NoMemory}
use Rattle.line_streams.specs.declared.fault.ConversationError.TheVariants.{TooManyLines as TooMany}
use Rattle.site_words.specs.declared.fault.SiteFault.{SiteFault}
use Rattle.site_words.specs.declared.fault.SiteFault.TheVariants.{ReadFailed, WriteFailed, OutOfMemory, TooManyLines}

abbrev pub fault_of_lines : ConversationError → SiteFault
fault_of_lines NotRead = ReadFailed
fault_of_lines NotWritten = WriteFailed
fault_of_lines NoMemory = OutOfMemory
fault_of_lines TooMany = TooManyLines
