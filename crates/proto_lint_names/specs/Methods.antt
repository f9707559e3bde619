-- The rules of methods.
use Rattle.std.specs.Prelude.{ℕ, Bool, not, nat_le, ◌||◌, List, [], ◌∷◌, ◌++◌, flat_map, length, is_some, codes}
use Rattle.std.specs.List.{filter}
use Rattle.std.specs.Str.{bytes_eq}
use Rattle.proto_base.specs.Ascii as ascii
use Rattle.proto_base.specs.Texts.{Text}
use Rattle.proto_tree.specs.declared.tree.MethodType.{MethodType}
use Rattle.proto_tree.specs.declared.tree.Signature.{Signature}
use Rattle.proto_tree.specs.declared.piece.Statement.{Statement}
use Rattle.proto_tree.specs.declared.piece.Statement.TheVariants as statement
use Rattle.proto_tree.specs.declared.piece.Header.{Header}
use Rattle.proto_tree.specs.declared.piece.Header.TheVariants as header
use Rattle.proto_tree.specs.Tree.{Tree, End, Leaf, Block}
use Rattle.proto_tree.specs.References.{first_of}
use Rattle.proto_case.specs.Cases.{is_pascal}
use Rattle.proto_lint_rules.specs.declared.rule.Rule.TheVariants as rule
use Rattle.proto_names_rules.specs.Forest.{under}
use Rattle.proto_lint_names.specs.Placed.{Found, NamedToken, behind_last, found_by, unless}
use Rattle.proto_lint_names.specs.Readings.{LintFile, meant_name, word_in}

-- ---- the methods of a service

-- the signature of a statement that is a method
abbrev pub statement_signatures : Statement → List Signature
statement_signatures (statement.Method s end) = s ∷ []
statement_signatures _ = []

-- the signature of a block that is a method's: a method may end with one
abbrev pub header_signatures : Header → List Signature
header_signatures (header.Method s) = s ∷ []
header_signatures _ = []

-- the signatures of the methods of a service, in order
abbrev pub signatures_in : Tree → List Signature
signatures_in End = []
signatures_in (Leaf s rest) = statement_signatures s ++ signatures_in rest
signatures_in (Block h opens within closes rest) = header_signatures h ++ signatures_in rest

-- the full name of the message that an input or output means
abbrev pub type_meant : LintFile → MethodType → Text
type_meant r t = meant_name r (first_of t.reference.dot t.reference.words)

-- ---- names

-- a method of the service with a full name, at its own name, unless it passes
abbrev pub method_unless : LintFile → Text → Bool → Signature → List NamedToken
method_unless r service passes s = unless passes s.name (under service (word_in r s.name))

-- RPC_PASCAL_CASE: a method whose name is not Pascal
abbrev pub rpc_pascal_case : LintFile → Text → Signature → List NamedToken
rpc_pascal_case r service s = method_unless r service (is_pascal (word_in r s.name)) s

-- RPC_NO_CLIENT_STREAMING: a method with `stream` before its input
abbrev pub rpc_no_client_streaming : LintFile → Text → Signature → List NamedToken
rpc_no_client_streaming r service s = method_unless r service (not (is_some s.input.stream)) s

-- RPC_NO_SERVER_STREAMING: a method with `stream` before its output
abbrev pub rpc_no_server_streaming : LintFile → Text → Signature → List NamedToken
rpc_no_server_streaming r service s = method_unless r service (not (is_some s.output.stream)) s

-- ---- names of inputs and outputs

-- the last part of a type's full name is the method's word, or the service's and the method's, with
-- the suffix
abbrev pub is_standard : (service method suffix type : Text) → Bool
is_standard service method suffix type =
    bytes_eq (behind_last ascii.dot type) (method ++ suffix)
    || bytes_eq (behind_last ascii.dot type) (service ++ (method ++ suffix))

-- RPC_REQUEST_STANDARD_NAME: a method whose input's name does not end in the part `GetRequest` or
-- `SGetRequest`, where the method is `Get` of the service `S` (a service by its full name, and by
-- the token of its name)
abbrev pub rpc_request_standard_name : LintFile → Text → ℕ → Signature → List NamedToken
rpc_request_standard_name r service name s =
    method_unless r service
    (is_standard (word_in r name) (word_in r s.name) (codes "Request") (type_meant r s.input)) s

-- RPC_RESPONSE_STANDARD_NAME: the same of the output, with `Response`
abbrev pub rpc_response_standard_name : LintFile → Text → ℕ → Signature → List NamedToken
rpc_response_standard_name r service name s =
    method_unless r service
    (is_standard (word_in r name) (word_in r s.name) (codes "Response") (type_meant r s.output)) s

-- ---- messages of one method alone

-- the messages of the inputs and outputs of these methods
abbrev pub method_messages : LintFile → List Signature → List Text
method_messages r ss = flat_map (λ s. type_meant r s.input ∷ type_meant r s.output ∷ []) ss

-- a message stands more than once among the messages of all methods: as input and output of one
-- method, or as one of another method, too
abbrev pub is_shared : List Text → Text → Bool
is_shared all type = nat_le 2 (length (filter (bytes_eq type) all))

-- RPC_REQUEST_RESPONSE_UNIQUE: a method whose input and output are one message, or one of whose
-- messages is the input or output of another method of the workspace
abbrev pub rpc_request_response_unique : LintFile → List Text → Text → Signature → List NamedToken
rpc_request_response_unique r all service s =
    method_unless r service
    (not (is_shared all (type_meant r s.input) || is_shared all (type_meant r s.output))) s

-- ---- what they find

-- what the rules find at a method of a service, where these are the messages of all methods of the
-- workspace
abbrev pub method_finds : List Bool → LintFile → List Text → Text → ℕ → Signature → List Found
method_finds rules r all service name s =
    found_by rules r rule.RpcNoClientStreaming (rpc_no_client_streaming r service s)
    ++ (found_by rules r rule.RpcNoServerStreaming (rpc_no_server_streaming r service s)
    ++ (found_by rules r rule.RpcPascalCase (rpc_pascal_case r service s)
    ++ (found_by rules r rule.RpcRequestResponseUnique
    (rpc_request_response_unique r all service s)
    ++ (found_by rules r rule.RpcRequestStandardName (rpc_request_standard_name r service name s)
    ++ found_by rules r rule.RpcResponseStandardName
    (rpc_response_standard_name r service name s)))))

-- what the rules find at the methods of a service, with the scope around it
abbrev pub methods_finds : List Bool → LintFile → List Text → Text → ℕ → Tree → List Found
methods_finds rules r all scope name within =
    flat_map (method_finds rules r all (under scope (word_in r name)) name) (signatures_in within)
