-- What is sent in answer to a request (RFC 9112), in the terms of `http1`.
use Rattle.std.specs.Prelude.{ℕ, ◌==◌, if◌then◌else◌, List, [], ◌∷◌, ◌++◌, codes, length}
use Rattle.http1.specs.Conn.{data_text, finish_text, after_data}
use Rattle.http1.specs.Fields.{Header}
use Rattle.http1.specs.Server.{after_response, planned_response, writing}
use Rattle.http1.specs.declared.conn.BodySize.TheVariants.{Known}
use Rattle.http1.specs.declared.server.Server.{Server}

-- the reason phrase of a status (RFC 9110 section 15)
abbrev pub reason_of : (status : ℕ) → List ℕ
reason_of status =
    if status == 200 then codes "OK"
    else if status == 400 then codes "Bad Request"
    else if status == 401 then codes "Unauthorized"
    else if status == 403 then codes "Forbidden"
    else if status == 404 then codes "Not Found"
    else if status == 405 then codes "Method Not Allowed"
    else if status == 413 then codes "Content Too Large"
    else if status == 414 then codes "URI Too Long"
    else if status == 423 then codes "Locked"
    else if status == 431 then codes "Request Header Fields Too Large"
    else if status == 501 then codes "Not Implemented"
    else codes "Service Unavailable"

-- what is accepted is JSON
abbrev pub media_type : (status : ℕ) → List ℕ
media_type status = if status == 200 then codes "application/json" else codes "text/plain; charset=utf-8"

-- the field that a status has beside that (RFC 9110 sections 11.6.1 and 10.2.1); what has none may not be kept
abbrev pub field_beside : (status : ℕ) → Header
field_beside status =
    if status == 401 then (codes "www-authenticate", codes "Bearer")
    else if status == 405 then (codes "allow", codes "POST")
    else (codes "cache-control", codes "no-store")

abbrev pub fields_of : (status : ℕ) → List Header
fields_of status = (codes "content-type", media_type status) ∷ field_beside status ∷ []

-- the head of a response
abbrev pub head_octets : Server → (status : ℕ) → (text : List ℕ) → List ℕ
head_octets server status text =
    planned_response server status (reason_of status) (Known (length text)) (fields_of status)

-- the server after that head
abbrev pub after_head : Server → (status : ℕ) → (text : List ℕ) → Server
after_head server status text = after_response server status (Known (length text)) (fields_of status)

-- the text, and what ends it
abbrev pub body_octets : Server → (text : List ℕ) → List ℕ
body_octets server text =
    data_text (writing server) text ++ finish_text (after_data (writing server) (length text)) []

-- a response with this status and text
abbrev pub response_octets : Server → (status : ℕ) → (text : List ℕ) → List ℕ
response_octets server status text =
    head_octets server status text ++ body_octets (after_head server status text) text
