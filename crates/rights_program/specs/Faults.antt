-- How the program ends if it is stopped.
use Rattle.std.specs.Prelude.{ℕ, List, [], ◌∷◌, ◌++◌, codes}
use Rattle.std.specs.declared.io.ErrorKind.{ErrorKind}
use Rattle.std.specs.declared.io.ErrorKind.TheVariants.{InvalidData}
use Rattle.rights_program.specs.declared.fault.ProgramError.{ProgramError}
use Rattle.rights_program.specs.declared.fault.ProgramError.TheVariants.{BadCommandLine, CannotCreateStartFile}
use Rattle.rights_program.specs.declared.fault.ProgramError.TheVariants.{CannotListen, Explained, OutOfMemory}
use Rattle.rights_program.specs.declared.fault.ProgramError.TheVariants.{ReadFailed}
use Rattle.rights_program.specs.declared.fault.ProgramError.TheVariants.{StartedBefore, TooManyLines, WriteFailed}
use Rattle.site_words.specs.declared.words.WordsFault.{WordsFault}
use Rattle.site_words.specs.declared.words.WordsFault.TheVariants as words
use Rattle.site_words.specs.declared.fault.SiteFault.{SiteFault}
use Rattle.site_words.specs.declared.fault.SiteFault.TheVariants as site
use Rattle.site_words.specs.declared.fault.CheckFault.{CheckFault}
use Rattle.site_words.specs.declared.fault.CheckFault.TheVariants as check
use Rattle.line_streams.specs.declared.fault.ConversationError.{ConversationError}
use Rattle.line_streams.specs.declared.fault.ConversationError.TheVariants as script

-- the exit status
abbrev pub status_of : ProgramError → ℕ
status_of BadCommandLine = 2
status_of StartedBefore = 1
status_of CannotCreateStartFile = 1
status_of CannotListen = 1
status_of ReadFailed = 1
status_of WriteFailed = 1
status_of OutOfMemory = 1
status_of TooManyLines = 1
status_of Explained = 1

abbrev pub fault_text : ProgramError → List ℕ
fault_text BadCommandLine = codes "rights-site: bad command line"
fault_text StartedBefore = codes "rights-site: was started before"
fault_text CannotCreateStartFile = codes "rights-site: cannot create the start file"
fault_text CannotListen = codes "rights-site: cannot listen"
fault_text ReadFailed = codes "rights-site: read failed"
fault_text WriteFailed = codes "rights-site: write failed"
fault_text OutOfMemory = codes "rights-site: out of memory"
fault_text TooManyLines = codes "rights-site: too many lines"
fault_text Explained = []

-- what is printed: the text and a line feed; nothing if the cause was printed already
abbrev pub line_of : ProgramError → List ℕ
line_of Explained = []
line_of fault = fault_text fault ++ 10 ∷ []

-- why the arguments of the process cannot be read, by the kind of the error
abbrev pub fault_of_given : ErrorKind → ProgramError
fault_of_given InvalidData = BadCommandLine
fault_of_given kind = OutOfMemory

abbrev pub fault_of_words : WordsFault → ProgramError
fault_of_words words.Refused = BadCommandLine
fault_of_words words.OutOfMemory = OutOfMemory

abbrev pub fault_of_script : ConversationError → ProgramError
fault_of_script script.ReadFailed = ReadFailed
fault_of_script script.WriteFailed = WriteFailed
fault_of_script script.OutOfMemory = OutOfMemory
fault_of_script script.TooManyLines = TooManyLines

abbrev pub fault_of_site : SiteFault → ProgramError
fault_of_site site.StartedBefore = StartedBefore
fault_of_site site.CannotCreateStartFile = CannotCreateStartFile
fault_of_site site.CannotListen = CannotListen
fault_of_site site.ReadFailed = ReadFailed
fault_of_site site.WriteFailed = WriteFailed
fault_of_site site.OutOfMemory = OutOfMemory
fault_of_site site.TooManyLines = TooManyLines
fault_of_site site.Explained = Explained

abbrev pub fault_of_check : CheckFault → ProgramError
fault_of_check check.Explained = Explained
fault_of_check check.WriteFailed = WriteFailed
fault_of_check check.OutOfMemory = OutOfMemory
