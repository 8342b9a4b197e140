-- From whom the datagram of a packet is, and to whom.
--
-- `IsRouteOf link packet route`: the packet on a link of this type has a whole UDP datagram (`IsWholeUdp4`,
-- `IsWholeUdp6`), the ports are those of its header, and the addresses those of the header of IP (RFC 791, section
-- 3.1; RFC 8200, section 3). `HasNoDatagram`: it has none.
use Rattle.std.specs.Prelude.{◌≡◌, ℕ, ⊤, List, true, slice_range}
use Rattle.std.specs.Net.Addr.{ipv4_octets, ipv6_segments, segments_of}
use Rattle.std.specs.Net.Socket.{socket_ip, socket_port}
use Rattle.std.specs.declared.net.ip_addr.IpAddr.{IpAddr}
use Rattle.std.specs.declared.net.ip_addr.IpAddr.TheVariants.{V4, V6}
use Rattle.capture_files.specs.Packet.{IsFound, IsNetwork, IsUdp, IsWholeUdp4, IsWholeUdp6}
use Rattle.capture_files.specs.declared.endpoints.Route.{Route}
use Rattle.capture_files.specs.declared.packet.Found.{Found}
use Rattle.capture_files.specs.declared.packet.Found.TheVariants as found
use Rattle.capture_files.specs.declared.packet.Network.{Network}
use Rattle.capture_files.specs.declared.packet.Network.TheVariants as network

-- the ports of the route are those of a UDP datagram with which octets begin
abbrev pub HasPorts : Route → List ℕ → ℕ → Type 0
HasPorts route octets size = (datagram : List ℕ)
    × IsUdp octets size (socket_port route.from) (socket_port route.to) datagram

-- the address of IPv4 with these four octets
abbrev pub IsAddressV4 : List ℕ → IpAddr → Type 0
IsAddressV4 octets (V4 address) = ipv4_octets address ≡ octets
IsAddressV4 octets (V6 address) = ⊥

-- the address of IPv6 with these sixteen octets
abbrev pub IsAddressV6 : List ℕ → IpAddr → Type 0
IsAddressV6 octets (V4 address) = ⊥
IsAddressV6 octets (V6 address) = ipv6_segments address ≡ segments_of octets

-- the route of a packet of IPv4
pub record IsRoute4 (octets : List ℕ) (route : Route) : Type 0 where
  pub ports : IsWholeUdp4 octets (HasPorts route)
  pub from : IsAddressV4 (slice_range octets 12 16) (socket_ip route.from)
  pub to : IsAddressV4 (slice_range octets 16 20) (socket_ip route.to)

-- the route of a packet of IPv6
pub record IsRoute6 (octets : List ℕ) (route : Route) : Type 0 where
  pub ports : IsWholeUdp6 octets (HasPorts route)
  pub from : IsAddressV6 (slice_range octets 8 24) (socket_ip route.from)
  pub to : IsAddressV6 (slice_range octets 24 40) (socket_ip route.to)

abbrev pub IsRouteIn : Network → Route → Type 0
IsRouteIn (network.Ipv4 octets) route = IsRoute4 octets.now route
IsRouteIn (network.Ipv6 octets) route = IsRoute6 octets.now route
IsRouteIn network.NotIp route = ⊥
IsRouteIn network.OtherLink route = ⊥

abbrev pub IsRouteOf : ℕ → List ℕ → Route → Type 0
IsRouteOf link packet route = (n : Network) × IsNetwork link packet n × IsRouteIn n route

-- it isn't a datagram
abbrev pub IsNone : Found → Type 0
IsNone (found.Datagram source destination octets) = ⊥
IsNone found.Fragment = ⊤
IsNone found.CutShort = ⊤
IsNone found.BadLength = ⊤
IsNone found.NotUdp = ⊤
IsNone found.NotIp = ⊤
IsNone found.OtherLink = ⊤

-- what the packet is, where nothing of it was cut when it was captured, isn't a datagram
abbrev pub HasNoDatagram : ℕ → List ℕ → Type 0
HasNoDatagram link packet = (f : Found) × IsFound link packet true f × IsNone f
