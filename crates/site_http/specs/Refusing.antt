-- The responses of the server's own that differ from those of http_server.
use Rattle.std.specs.Prelude.{◌≡◌, ℕ, List, [], ◌++◌, codes, Option, Some, None}
use Rattle.std.specs.declared.io.ErrorKind.{ErrorKind}
use Rattle.std.specs.declared.io.ErrorKind.TheVariants as kind
use Rattle.httparse.specs.Ascii.{crlf_bytes}
use Rattle.httparse.specs.declared.Error.TheVariants as parser
use Rattle.http1.specs.declared.chunked.ChunkError.TheVariants as chunk
use Rattle.http1.specs.declared.error.ReadError.TheVariants.{Parse, Chunk}
use Rattle.http_server.specs.History.{History}
use Rattle.http_server.specs.declared.state.State.{State}
use Rattle.http_server.specs.declared.state.State.TheVariants.{Open, Closing}
use Rattle.http_server.specs.declared.state.Reason.TheVariants.{Refused}
use Rattle.http_server.specs.declared.state.Refusal.TheVariants.{Unreadable}
use Rattle.site_http.specs.declared.request_fault.RequestFault.{RequestFault}
use Rattle.site_http.specs.declared.request_fault.RequestFault.TheVariants.{Version, TooLong, TooSlow, GivesWay, NoRoom}
use Rattle.site_http.specs.declared.request_fault.TheConstants.{BAD_REQUEST}

-- what a failed read stands for
abbrev pub fault_of : ErrorKind → Option RequestFault
fault_of kind.TimedOut = Some TooSlow
fault_of kind.ConnectionAborted = Some GivesWay
fault_of kind.OutOfMemory = Some NoRoom
fault_of _ = None

-- .. and what http_server refuses
abbrev pub fault_in : State → Option RequestFault
fault_in (Closing (Refused (Unreadable (Parse parser.Version)))) = Some Version
fault_in (Closing (Refused (Unreadable (Chunk chunk.SizeOverflow)))) = Some TooLong
fault_in other = None

-- the code and the reason phrase
abbrev pub fault_status : RequestFault → List ℕ
fault_status Version = codes "505 HTTP Version Not Supported"
fault_status TooLong = codes "413 Payload Too Large"
fault_status TooSlow = codes "408 Request Timeout"
fault_status GivesWay = codes "503 Service Unavailable"
fault_status NoRoom = codes "503 Service Unavailable"

-- where only room was wanted the client may try again in a second
abbrev pub retry_field : RequestFault → List ℕ
retry_field GivesWay = codes "retry-after: 1" ++ crlf_bytes
retry_field NoRoom = codes "retry-after: 1" ++ crlf_bytes
retry_field other = []

-- a response with no body, which announces the close
abbrev pub fault_text : RequestFault → List ℕ
fault_text why =
    codes "HTTP/1.1 " ++ fault_status why ++ crlf_bytes ++ retry_field why
    ++ codes "connection: close" ++ crlf_bytes ++ codes "content-length: 0" ++ crlf_bytes ++ crlf_bytes

-- the connection is refused so: http_server has refused its next request, or no response is left to be written
abbrev pub IsCause : RequestFault → History → Type 0
IsCause Version h = fault_in h.state ≡ Some Version
IsCause TooLong h = fault_in h.state ≡ Some TooLong
IsCause other h = (h.state ≡ Open) × (h.pending ≡ [])

-- of what waits to be written this comes first, before the refusal: all but the response of http_server's own
abbrev pub ComesFirst : RequestFault → List ℕ → List ℕ → Type 0
ComesFirst Version pending front = pending ≡ front ++ BAD_REQUEST.now
ComesFirst TooLong pending front = pending ≡ front ++ BAD_REQUEST.now
ComesFirst other pending front = pending ≡ front
