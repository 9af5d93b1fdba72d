-- Heads that are written plainly.
use Rattle.std.specs.Prelude.{◌≡◌, ℕ, ◌<◌, ◌≤◌, min, take, ◌&&◌, Bool, nat_lt, List, ◌++◌, length, drop, codes, Option, Some}
use Rattle.httparse.specs.Grammar.{AllPass, RequestHead, ReadsRequest, print_request}
use Rattle.numbers.specs.Texts.{spid_text}
use Rattle.numbers.specs.declared.spid.Spid.{Spid}
use Rattle.http_messages.specs.Fields.{number_of}
use Rattle.http_messages.specs.Parsing.{IsRequestOf}
use Rattle.http_messages.specs.Table.{path_of}
use Rattle.http_messages.specs.declared.paths.Route.{Route}
use Rattle.http_messages.specs.declared.message.Request.{Request}

-- Whether the byte is a visible one of ASCII.
abbrev pub is_visible : ℕ → Bool
is_visible b = nat_lt 32 b && nat_lt b 127

-- Holds if the bytes after the method are a path, the version, `x-spid: `, and `rest`.
pub record IsPathThen (bytes path rest : List ℕ) : Type 0 where
  pub all : bytes ≡ path ++ (codes " HTTP/1.1\r\nx-spid: " ++ rest)
  pub some : 0 < length path
  pub path_is : AllPass is_visible path

-- Holds if so, and this is the route of the path.
abbrev pub IsRouteThen : (bytes : List ℕ) → Option Route → (rest : List ℕ) → Type 0
IsRouteThen bytes route rest = (path : List ℕ) × IsPathThen bytes path rest × (route ≡ path_of path)

-- Holds if the bytes are `POST `, and so on after it.
abbrev pub IsPostThen : (bytes : List ℕ) → Option Route → (rest : List ℕ) → Type 0
IsPostThen bytes route rest =
    (path : List ℕ) × (bytes ≡ codes "POST " ++ path) × IsRouteThen path route rest

-- Holds if the bytes are the text of a caller and `rest`.
abbrev pub IsCallerThen : (bytes : List ℕ) → (caller : Spid) → (rest : List ℕ) → Type 0
IsCallerThen bytes caller rest = bytes ≡ spid_text caller.number ++ rest

-- Holds if the bytes are digits that write n, and `rest`.
pub record IsNumberThen (bytes : List ℕ) (n : ℕ) (rest : List ℕ) : Type 0 where
  pub digits : List ℕ
  pub all : bytes ≡ digits ++ rest
  pub number : number_of digits ≡ Some n

-- Holds if the bytes after the caller are the length of the body and the end of the head, and
-- `rest` follows.
pub record IsLengthAndEnd (bytes : List ℕ) (size : ℕ) (rest : List ℕ) : Type 0 where
  pub digits : List ℕ
  pub all : bytes ≡ codes "\r\ncontent-length: " ++ (digits ++ (codes "\r\n\r\n" ++ rest))
  pub number : number_of digits ≡ Some size

-- Holds if the bytes begin with a head of this length, which asks this.
pub record IsHeadAt (bytes : List ℕ) (request : Request) (len : ℕ) : Type 0 where
  pub head : RequestHead
  pub reads : ReadsRequest bytes head (drop len bytes)
  pub len_is : len ≡ length (print_request head)
  pub few : length head.fields ≤ 64
  pub asks : IsRequestOf head request
  pub small : request.length ≤ 1048576

-- Holds if the first 8,192 bytes begin with a head of this length, which asks this.
abbrev pub IsHeadIn : List ℕ → Request → (len : ℕ) → Type 0
IsHeadIn input request len =
    (n : ℕ) × (n ≡ min (length input) 8192) × IsHeadAt (take n input) request len
