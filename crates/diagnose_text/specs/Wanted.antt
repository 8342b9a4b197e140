-- Which exchanges are wanted, and which side of a datagram is the agent where the user names agents.
--
-- `is_wanted`: an exchange of this user, engine and way is wanted. `direction`: a datagram is a request if it goes to
-- one of the agents and comes from none, and an answer if it comes from one and goes to none. An agent that is named
-- without a port is at each port of its address.
use Rattle.std.specs.Prelude.{ℕ, List, length, Bool, true, false, ◌&&◌, ◌||◌, ◌==◌, nat_eq, Option}
use Rattle.std.specs.Prelude.{Some, None}
use Rattle.std.specs.Cmp.Lexicographic.{pointwise}
use Rattle.std.specs.List.{list_any}
use Rattle.std.specs.Net.Addr.{ipv4_octets, ipv6_segments}
use Rattle.std.specs.Net.Socket.{socket_ip, socket_port}
use Rattle.std.specs.declared.net.ip_addr.IpAddr.{IpAddr}
use Rattle.std.specs.declared.net.ip_addr.IpAddr.TheVariants.{V4, V6}
use Rattle.std.specs.declared.net.socket_addr.SocketAddr.{SocketAddr}
use Rattle.capture_files.specs.declared.endpoints.Route.{Route}
use Rattle.diagnose_text.specs.declared.options.DiagnoseOptions.{DiagnoseOptions}
use Rattle.diagnose_text.specs.declared.options.NamedAgent.{NamedAgent}

-- the same address of IP
abbrev pub is_same_address : IpAddr → IpAddr → Bool
is_same_address (V4 first) (V4 second) = pointwise nat_eq (ipv4_octets first) (ipv4_octets second)
is_same_address (V6 first) (V6 second) = pointwise nat_eq (ipv6_segments first) (ipv6_segments second)
is_same_address (V4 first) (V6 second) = false
is_same_address (V6 first) (V4 second) = false

-- this port, or any where none is named
abbrev pub is_port : Option ℕ → ℕ → Bool
is_port None port = true
is_port (Some named) port = named == port

-- the agent is there
abbrev pub is_agent_at : SocketAddr → NamedAgent → Bool
is_agent_at endpoint agent = is_port agent.port (socket_port endpoint)
    && is_same_address agent.address (socket_ip endpoint)

-- one of these agents is there
abbrev pub is_named : List NamedAgent → SocketAddr → Bool
is_named agents endpoint = list_any (is_agent_at endpoint) agents

-- a request goes to an agent and comes from none, and an answer the other way
abbrev pub direction_between : Bool → Bool → Option Bool
direction_between true false = Some true
direction_between false true = Some false
direction_between true true = None
direction_between false false = None

abbrev pub direction : List NamedAgent → Route → Option Bool
direction agents route = direction_between (is_named agents route.to) (is_named agents route.from)

-- these octets are one of the names
abbrev pub is_in : List (List ℕ) → List ℕ → Bool
is_in names octets = list_any (λ name. pointwise nat_eq name octets) names

-- they are, or none is named
abbrev pub is_one_of : List (List ℕ) → List ℕ → Bool
is_one_of names octets = (length names == 0) || is_in names octets

-- this engine is one of those that are named, or none is named
abbrev pub is_engine_of : List (List ℕ) → Option (List ℕ) → Bool
is_engine_of engines None = length engines == 0
is_engine_of engines (Some engine) = is_one_of engines engine

-- one of the agents is at an end of this way, or none is named
abbrev pub is_way_of : List NamedAgent → Option Route → Bool
is_way_of agents None = length agents == 0
is_way_of agents (Some route) = (length agents == 0) || (is_named agents route.from || is_named agents route.to)

-- the exchange of this user, engine and way is wanted
abbrev pub is_wanted : DiagnoseOptions → List ℕ → Option (List ℕ) → Option Route → Bool
is_wanted options user engine way =
    is_one_of options.users.items user
    && (is_engine_of options.engines.items engine && is_way_of options.agents.items way)
