-- What is read of a request.
use Rattle.std.specs.Prelude.{ℕ, List, [], unwrap_or}
use Rattle.http_uri.specs.declared.uri.Uri.{Uri}
use Rattle.http_uri.specs.Uri.{uri_query}

-- the text after the first `?` of a request target, or the empty one
abbrev pub query_of : Uri → List ℕ
query_of uri = unwrap_or (uri_query uri) []
